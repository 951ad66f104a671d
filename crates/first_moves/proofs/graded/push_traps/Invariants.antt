use Rattle.first_moves.proofs.Common.{◌≡◌, ◌++◌, drop, string_bytes}
use Rattle.first_moves.specs.Graded.{trap_objects}
use Rattle.first_moves.proofs.graded.push_traps.Given as goal

abbrev pub invariant-loop-i : goal.invariant-loop-i
invariant-loop-i l = string_bytes l.text ++ trap_objects l.names (drop l.i l.traps) ≡ string_bytes l.fn.text ++ trap_objects l.names l.traps
