use Rattle.tsumego_problem.proofs.Common.{side_of, rules, sym, ◌∙◌}
use Rattle.tsumego_problem.proofs.Walking.{targets_hold}
use Rattle.tsumego_problem.proofs.walk.are_targets.Goals as goal

pub returns-then-not-is_empty : goal.returns-then-not-is_empty
returns-then-not-is_empty c = targets_hold (side_of c.args.colouring.now) c.args.colouring.now c.args.points.now c.in-Some.first c.get-cell.result c.all_hold.result (sym c.first.ensures.value ∙ c.in-Some.is) c.get-cell.ensures.value (sym c.is_empty.ensures ∙ search (rules)) c.all_hold.ensures
