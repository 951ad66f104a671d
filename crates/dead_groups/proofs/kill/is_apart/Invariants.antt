use Rattle.safe_groups.proofs.Common.{◌<◌, ℕ, IsTrue, IsFalse, area_of}
use Rattle.dead_groups.proofs.kill.is_apart.Given as goal

abbrev pub invariant-loop-number : goal.invariant-loop-number
invariant-loop-number l = (p : ℕ) → p < l.number → IsTrue ((area_of l.one).region p) → IsFalse ((area_of l.other).region p)
