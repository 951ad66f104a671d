use Rattle.safe_groups.proofs.Common.{◌<◌, ℕ, IsOfBoard, ground_at, state_at}
use Rattle.safe_groups.proofs.verdict.are_of_board.Given as goal

abbrev pub invariant-loop-place : goal.invariant-loop-place
invariant-loop-place l = (i : ℕ) → i < l.place → IsOfBoard l.problem l.keeper (ground_at l.grounds i) (state_at l.begins i)
