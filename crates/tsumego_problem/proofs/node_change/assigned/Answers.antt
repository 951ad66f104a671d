use Rattle.tsumego_problem.proofs.Common.{◌≡◌, ◌∙◌, ◌*◌, ◌<◌, ap, subst, rules, cell_at, number_of}
use Rattle.std.specs.Prelude.{slice_set}
use Rattle.tsumego_problem.proofs.Assigning.{FilledTo, left_at, filled_more, assigned_all, left_by_sets}
use Rattle.tsumego_problem.proofs.node_change.assigned.Goals as goal

pub loop-number-preserved : goal.loop-number-preserved
loop-number-preserved c =
    let n = c.args.size in let i = c.loop-number.number in let node = c.args.node.now in let old = c.args.colouring.now in let p = c.point_at-point.result in
    let low : i < n * n = search rules in
    let held = c.get.ensures.value ∙ ap (λ m. cell_at old (number_of m p)) c.requires in
    let value = c.cell_after.ensures ∙ left_by_sets n node old c.points_at-black.result c.points_at-white.result c.points_at-empty.result p c.get.result
    c.points_at-black.ensures.value c.points_at-black.ensures.on_board c.points_at-white.ensures.value c.points_at-white.ensures.on_board c.points_at-empty.ensures.value c.points_at-empty.ensures.on_board c.point_at-point.ensures.on_board held in
    filled_more n (left_at n node old) c.loop-number.after c.set.new.self i (number_of n p) c.cell_after.result low c.point_at-point.ensures.number_back (value ∙ ap (left_at n node old) c.point_at-point.ensures.number_back)
    (c.set.ensures.value ∙ ap (λ m. slice_set c.loop-number.after (number_of m p) c.cell_after.result) c.loop-number.invariant.size) (c.set.ensures.size ∙ c.loop-number.invariant.size) c.loop-number.invariant

pub returns-clause-value : goal.returns-clause-value
returns-clause-value c =
    let n = c.args.size in
    let end : c.loop-number.number ≡ n * n = search rules in
    assigned_all n c.args.node.now c.args.colouring.now c.loop-number.after (subst (λ k. FilledTo n (left_at n c.args.node.now c.args.colouring.now) c.loop-number.after k) end c.loop-number.invariant)
