use Rattle.safe_groups.proofs.Common.{◌≡◌, ◌<◌, ℕ, IsTrue, cell_at, own, area_of, IsSafeAt}
use Rattle.safe_groups.proofs.Spacing.{AreSafe}
use Rattle.safe_groups.proofs.ground.Ground.all_safe.Given as goal

abbrev pub invariant-loop-number : goal.invariant-loop-number
invariant-loop-number l = ((p : ℕ) → p < l.number → cell_at l.state p ≡ own (area_of l.self) → IsSafeAt (area_of l.self) l.state p) × AreSafe (area_of l.self) l.state l.safe
