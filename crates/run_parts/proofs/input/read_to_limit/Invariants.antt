use Rattle.std.proofs.Common.{◌≡◌, ◌≤◌, ◌-◌, ◌++◌, ℕ, List, length}
use Rattle.std.specs.Io.KnownBytes.{Consumes}
use Rattle.run_parts.proofs.input.read_to_limit.Given as goal

-- what has been read so far stands after what was there
abbrev pub invariant-loop-block : goal.invariant-loop-block
invariant-loop-block g l =
    (bytes : List ℕ) × (l.into.items ≡ l.initial.into.items ++ bytes) × Consumes (g.R.Read.remaining l.initial.reader) (g.R.Read.remaining l.reader) bytes
    × (length l.into.items ≤ l.limit) × (length l.block ≡ 65536)

abbrev pub decreases-loop-block : goal.decreases-loop-block
decreases-loop-block g l = l.limit - length l.into.items
