use Rattle.first_moves.proofs.Common.{◌≡◌, ◌++◌, drop, string_bytes}
use Rattle.first_moves.specs.Text.{later_lines}
use Rattle.first_moves.proofs.list.push_later.Given as goal

abbrev pub invariant-loop-i : goal.invariant-loop-i
invariant-loop-i l = string_bytes l.text ++ later_lines l.names (drop l.i l.later) ≡ string_bytes l.fn.text ++ later_lines l.names l.later
