use Rattle.safe_groups.proofs.Common.{◌≡◌, ◌*◌, ◌<◌, ◌⊎◌, ℕ, IsTrue, cell_at, own, area_of, marked}
use Rattle.safe_groups.proofs.ground.Ground.all_lean.Given as goal

abbrev pub invariant-loop-number : goal.invariant-loop-number
invariant-loop-number l = (p : ℕ) → p < l.number → cell_at l.wanted p ≡ own (area_of l.self) → (cell_at l.state p ≡ own (area_of l.self)) × (IsTrue (marked l.self l.points p) ⊎ (cell_at l.left p ≡ own (area_of l.self)))
