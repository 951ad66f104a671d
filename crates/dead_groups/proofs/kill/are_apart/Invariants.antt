use Rattle.safe_groups.proofs.Common.{◌<◌, ℕ, IsTrue, IsFalse, area_of, ground_at}
use Rattle.dead_groups.proofs.kill.are_apart.Given as goal

abbrev pub invariant-loop-place : goal.invariant-loop-place
invariant-loop-place l = (i : ℕ) → i < l.place → (p : ℕ) → IsTrue ((area_of l.ground).region p) → IsFalse ((area_of (ground_at l.grounds i)).region p)
