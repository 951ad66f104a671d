use Rattle.first_moves.proofs.Common.{◌≡◌, ◌++◌, drop, string_bytes}
use Rattle.first_moves.specs.Json.{turn_objects}
use Rattle.first_moves.proofs.json.push_objects.Given as goal

abbrev pub invariant-loop-i : goal.invariant-loop-i
invariant-loop-i l = string_bytes l.text ++ turn_objects l.names l.before (drop l.i l.found) ≡ string_bytes l.fn.text ++ turn_objects l.names l.before l.found
