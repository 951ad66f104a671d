use Rattle.safe_groups.proofs.Common.{◌≡◌, ◌<◌, ℕ, IsTrue, cell_at, own, area_of, IsGivenAt}
use Rattle.safe_groups.proofs.ground.Ground.all_given.Given as goal

abbrev pub invariant-loop-number : goal.invariant-loop-number
invariant-loop-number l = (p : ℕ) → p < l.number → IsTrue ((area_of l.self).gives p) → IsGivenAt (area_of l.self) l.state p
