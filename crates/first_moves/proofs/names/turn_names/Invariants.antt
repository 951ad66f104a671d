use Rattle.first_moves.proofs.Common.{◌≡◌, ◌++◌, drop, string_bytes}
use Rattle.first_moves.specs.Text.{turn_texts}
use Rattle.first_moves.proofs.names.turn_names.Given as goal

abbrev pub invariant-loop-i : goal.invariant-loop-i
invariant-loop-i l = string_bytes l.text ++ turn_texts l.names (drop l.i l.turns) ≡ turn_texts l.names l.turns
