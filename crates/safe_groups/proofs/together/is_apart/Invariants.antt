use Rattle.safe_groups.proofs.Common.{◌<◌, ℕ, IsTrue, area_of}
use Rattle.safe_groups.proofs.together.is_apart.Given as goal

abbrev pub invariant-loop-number : goal.invariant-loop-number
invariant-loop-number l = (p : ℕ) → p < l.number → IsTrue ((area_of l.one).region p) → IsTrue ((area_of l.other).region p) → ⊥
