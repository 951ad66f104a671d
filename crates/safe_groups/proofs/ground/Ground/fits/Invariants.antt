use Rattle.safe_groups.proofs.Common.{◌<◌, ℕ, area_of, FitsAt}
use Rattle.safe_groups.proofs.ground.Ground.fits.Given as goal

abbrev pub invariant-loop-number : goal.invariant-loop-number
invariant-loop-number l = (p : ℕ) → p < l.number → FitsAt (area_of l.self) l.board l.state p
