use Rattle.tsumego_problem.proofs.Common.{◌≡◌, ◌∙◌, ◌*◌, ◌<◌, ap, subst, sym, arith, range_with_len, All, points, IsOn, points_in}
use Rattle.tsumego_problem.proofs.EachValue.{none_in, one_in, all_in, in_board}
use Rattle.tsumego_problem.proofs.named_points.all_points.Goals as goal

pub loop-number-init : goal.loop-number-init
loop-number-init c = none_in c.args.size c.new-set.result c.new-set.ensures

pub loop-number-preserved : goal.loop-number-preserved
loop-number-preserved c =
    let on : c.loop-number.number < c.args.size * c.args.size = omega (arith, c.loop-number-test.true, c.area-number-end.ensures.value) in
    c.insert.ensures ∙ one_in c.args.size c.loop-number.number c.loop-number.set c.point_at.result (omega (arith, c.area-number-end.ensures.least)) on c.point_at.ensures.place c.loop-number.invariant

pub returns : goal.returns
returns c =
    let n = c.args.size in
    let end : c.loop-number.number ≡ n * n = omega (arith, c.loop-number-test.false, c.loop-number.auto.number-end, c.area-number-end.ensures.value) in
    let whole = c.loop-number.invariant ∙ ap (λ k. points_in n (range_with_len 0 k)) end in
    record { value = all_in n c.loop-number.set whole; on_board = subst (All (IsOn n)) (sym whole) (in_board n (points n) c.area-number-end.ensures.least) }
