use Rattle.safe_groups.proofs.Common.{◌≡◌, sym, ◌∙◌, ◌*◌, ◌<◌, ap, arith, side_of, number_of}
use Rattle.safe_groups.proofs.Grounds.{made_set}
use Rattle.dead_groups.specs.Ground.{masked_cell}
use Rattle.dead_groups.proofs.states.masked.Goals as goal

pub loop-number-preserved : goal.loop-number-preserved
loop-number-preserved c =
    let n = side_of c.args.elsewhere.now in
    let made = c.loop-number.made in
    let size : c.size-size.result ≡ n = c.size-size.ensures.value in
    let on : c.loop-number.number < n * n = omega (arith, c.loop-number-test.true, c.area-number-end.ensures.value, ap (λ m. m * m) size) in
    let there : number_of (side_of made) c.point_at.result ≡ c.loop-number.number = ap (λ m. number_of m c.point_at.result) (c.loop-number.invariant.side ∙ sym size) ∙ c.point_at.ensures.number_back in
    made_set n (masked_cell c.args.mask.now c.args.cell c.args.there.now c.args.elsewhere.now) made c.set.new.self c.loop-number.number (number_of (side_of made) c.point_at.result) c.masked_cell-found.result on there c.masked_cell-found.ensures c.set.ensures.value c.set.ensures.size c.loop-number.invariant
