use Rattle.safe_groups.proofs.Common.{◌≡◌, ◌∙◌, ◌*◌, ◌<◌, ap, arith, refl, side_of, number_of}
use Rattle.safe_groups.proofs.Grounds.{made_set}
use Rattle.dead_groups.proofs.states.full_of.Goals as goal

pub loop-number-preserved : goal.loop-number-preserved
loop-number-preserved c =
    let n = c.args.size in
    let made = c.loop-number.made in
    let on : c.loop-number.number < n * n = omega (arith, c.loop-number-test.true, c.area-number-end.ensures.value) in
    let there : number_of (side_of made) c.point_at.result ≡ c.loop-number.number = ap (λ m. number_of m c.point_at.result) c.loop-number.invariant.side ∙ c.point_at.ensures.number_back in
    made_set n (λ p. c.args.cell) made c.set.new.self c.loop-number.number (number_of (side_of made) c.point_at.result) c.args.cell on there refl c.set.ensures.value c.set.ensures.size c.loop-number.invariant
