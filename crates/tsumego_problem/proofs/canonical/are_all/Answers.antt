use Rattle.tsumego_problem.proofs.Common.{◌*◌, ◌<◌, map, ◌∙◌, arith, number_of, holds_point}
use Rattle.tsumego_problem.proofs.Recording.{all_hit, all_miss, held_at}
use Rattle.tsumego_problem.proofs.canonical.are_all.Goals as goal

pub returns-then-not-has : goal.returns-then-not-has
returns-then-not-has c =
    let n = c.args.size in let k = c.loop-number.number in let set = c.args.set.now in
    let within : k < n * n = omega (arith, c.loop-number-test.true, c.area-number-end.ensures.value) in
    all_miss (holds_point (map (number_of n) set)) k (n * n) within (held_at n k set c.point_at.result c.has.result c.requires c.point_at.ensures.on_board c.point_at.ensures.number_back c.has.ensures ∙ c.if-not-has.true) c.loop-number.invariant

pub loop-number-preserved : goal.loop-number-preserved
loop-number-preserved c =
    let n = c.args.size in let k = c.loop-number.number in let set = c.args.set.now in
    let within : k < n * n = omega (arith, c.loop-number-test.true, c.area-number-end.ensures.value) in
    all_hit (holds_point (map (number_of n) set)) k (n * n) within (held_at n k set c.point_at.result c.has.result c.requires c.point_at.ensures.on_board c.point_at.ensures.number_back c.has.ensures ∙ c.if-not-has.false) c.loop-number.invariant
