use Rattle.safe_groups.proofs.Common.{◌≡◌, ◌*◌, length, side_of, AreKept}
use Rattle.safe_groups.proofs.verdict.kept_stones.Given as goal

abbrev pub invariant-loop-number : goal.invariant-loop-number
invariant-loop-number l = (side_of l.stones ≡ l.size) × (length l.stones ≡ l.size * l.size) × AreKept l.keeper l.begins l.stones
