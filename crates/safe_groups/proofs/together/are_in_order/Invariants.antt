use Rattle.safe_groups.proofs.Common.{◌*◌, ◌<◌, ℕ, ground_at, IsApart, IsInOrder}
use Rattle.safe_groups.proofs.together.are_in_order.Given as goal

abbrev pub invariant-loop-place : goal.invariant-loop-place
invariant-loop-place l = (i : ℕ) → i < l.place → IsInOrder l.grounds l.size i × ((j : ℕ) → j < i → IsApart (ground_at l.grounds i) (ground_at l.grounds j))
