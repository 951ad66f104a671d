use Rattle.safe_groups.proofs.Common.{◌≡◌, ◌<◌, ℕ, IsTrue, cell_at, own, area_of}
use Rattle.safe_groups.proofs.ground.Ground.bars_none.Given as goal

abbrev pub invariant-loop-number : goal.invariant-loop-number
invariant-loop-number l = (p : ℕ) → p < l.number → IsTrue ((area_of l.self).answers p) → cell_at l.past p ≡ own (area_of l.self) → cell_at l.state p ≡ own (area_of l.self)
