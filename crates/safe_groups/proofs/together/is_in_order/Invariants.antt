use Rattle.safe_groups.proofs.Common.{◌<◌, ℕ, IsInOrderAt}
use Rattle.safe_groups.proofs.together.is_in_order.Given as goal

abbrev pub invariant-loop-number : goal.invariant-loop-number
invariant-loop-number l = (p : ℕ) → p < l.number → IsInOrderAt l.grounds l.place p
