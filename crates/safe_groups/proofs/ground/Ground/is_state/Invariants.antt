use Rattle.safe_groups.proofs.Common.{◌<◌, ℕ, area_of, IsWalledAt}
use Rattle.safe_groups.proofs.ground.Ground.is_state.Given as goal

abbrev pub invariant-loop-number : goal.invariant-loop-number
invariant-loop-number l = (p : ℕ) → p < l.number → IsWalledAt (area_of l.self) l.state p
