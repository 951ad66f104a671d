use Rattle.first_moves.proofs.Common.{◌≡◌, ◌++◌, drop, string_bytes}
use Rattle.first_moves.specs.Text.{turn_lines}
use Rattle.first_moves.proofs.list.push_turns.Given as goal

abbrev pub invariant-loop-i : goal.invariant-loop-i
invariant-loop-i l = string_bytes l.text ++ turn_lines l.names l.before (drop l.i l.found) ≡ string_bytes l.fn.text ++ turn_lines l.names l.before l.found
