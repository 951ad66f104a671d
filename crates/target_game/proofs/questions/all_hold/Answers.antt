use Rattle.target_game.proofs.Common.{rules, side_of, IsOn}
use Rattle.target_game.proofs.Loops.{left_on}
use Rattle.target_game.proofs.questions.all_hold.Goals as goal

pub loop-point-preserved : goal.loop-point-preserved
loop-point-preserved c = (search rules, search rules, left_on (IsOn (side_of c.args.colouring.now)) c.loop-point.point-iterator c.next.new.self c.in-Some.point c.in-Some.ensures.steps c.loop-point.invariant.2, search rules)
