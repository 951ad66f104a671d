use Rattle.std.proofs.Common.{arith}
use Rattle.safe_groups.proofs.Judging.{listed_at}
use Rattle.safe_groups.proofs.ground.Ground.is_known.Goals as goal

pub returns : goal.returns
returns c = λ fits. (c.index-states-place.result, listed_at c.args.states.now c.args.place c.index-states-place.result (omega (arith, c.if-place-states.false)) c.index-states-place.is, c.fits.ensures fits)
