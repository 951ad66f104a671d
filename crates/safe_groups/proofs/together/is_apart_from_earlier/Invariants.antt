use Rattle.safe_groups.proofs.Common.{◌<◌, ℕ, ground_at, IsApart}
use Rattle.safe_groups.proofs.together.is_apart_from_earlier.Given as goal

abbrev pub invariant-loop-other : goal.invariant-loop-other
invariant-loop-other l = (j : ℕ) → j < l.other → IsApart (ground_at l.grounds l.place) (ground_at l.grounds j)
