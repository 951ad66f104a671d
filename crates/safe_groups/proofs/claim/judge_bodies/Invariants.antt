use Rattle.safe_groups.proofs.Common.{◌<◌, ℕ, ground_at, state_at, HasReplies}
use Rattle.safe_groups.proofs.claim.judge_bodies.Given as goal

abbrev pub invariant-loop-place : goal.invariant-loop-place
invariant-loop-place g l = (i : ℕ) → i < l.place → HasReplies (ground_at l.grounds i) (state_at l.starts i)
