use Rattle.tsumego_problem.proofs.Common.{true, sym, subst, arith, trim, points_named, Adds}
use Rattle.tsumego_problem.proofs.EachValue.{each_start, each_more, each_end, each_on}
use Rattle.tsumego_problem.proofs.named_points.read_points.Goals as goal

pub loop-value-init : goal.loop-value-init
loop-value-init c = each_start c.args.size c.args.values.now c.new-set.result c.new-set.ensures

pub loop-value-preserved : goal.loop-value-preserved
loop-value-preserved c =
    let n = c.args.size in
    each_more n c.args.values.now c.loop-value.value-index c.value-item.result c.loop-value.set c.add_named.new.set c.loop-value-test.true (sym c.value-item.is)
    (subst (λ w. Adds n (points_named n (trim w)) true c.loop-value.set c.add_named.new.set) c.as_slice.ensures
    (subst (λ b. Adds n (points_named n (trim c.as_slice.result.now)) b c.loop-value.set c.add_named.new.set) c.if-not-add_named.false c.add_named.ensures))
    c.loop-value.invariant

pub returns-clause-value : goal.returns-clause-value
returns-clause-value c = each_end c.args.size c.args.values.now c.loop-value.value-index c.loop-value.set (omega (arith, c.loop-value-test.false, c.loop-value.auto.value-index-end)) c.loop-value.invariant

pub returns-clause-on_board : goal.returns-clause-on_board
returns-clause-on_board c = each_on c.loop-value.value-index c.loop-value.set c.args.size c.args.values.now c.area.ensures.least c.loop-value.invariant
