use Rattle.go_points.proofs.Common.{refl, arith, narrow_count}
use Rattle.go_points.proofs.Narrowing.{none_copied, one_copied, all_copied}
use Rattle.go_points.proofs.point_bits.narrow_bits.Goals as goal

pub loop-index-init : goal.loop-index-init
loop-index-init c = none_copied c.args.bits.now narrow_count

pub loop-index-preserved : goal.loop-index-preserved
loop-index-preserved c = one_copied c.args.bits.now c.loop-index.narrow narrow_count c.loop-index.index c.loop-index.invariant _ (omega arith) refl

pub returns : goal.returns
returns c = all_copied c.args.bits.now c.loop-index.narrow narrow_count c.loop-index.index c.loop-index.invariant (λ j more low. absurd (omega (arith, more, low)))
