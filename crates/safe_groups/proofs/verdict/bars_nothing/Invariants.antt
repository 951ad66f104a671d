use Rattle.safe_groups.proofs.Common.{◌<◌, ℕ, BarsNone, ground_at, state_at}
use Rattle.safe_groups.proofs.verdict.bars_nothing.Given as goal

abbrev pub invariant-loop-place : goal.invariant-loop-place
invariant-loop-place l = (i : ℕ) → i < l.place → BarsNone (ground_at l.grounds i) (state_at l.begins i) l.past
