use Rattle.std.proofs.Common.{◌≡◌, ◌+◌, ◌≤◌, drop}
use Rattle.first_moves.specs.Judged.{count, is_right, is_unknown}
use Rattle.first_moves.proofs.found.counted.Given as goal

abbrev pub invariant-loop-i : goal.invariant-loop-i
invariant-loop-i l =
    (l.winning + count is_right (drop l.i l.found) ≡ count is_right l.found) × (l.winning ≤ l.i)
    × (l.unknown + count is_unknown (drop l.i l.found) ≡ count is_unknown l.found) × (l.unknown ≤ l.i)
