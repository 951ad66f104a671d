use Rattle.first_moves.proofs.Common.{◌≡◌, ◌++◌, drop, string_bytes}
use Rattle.first_moves.specs.Json.{later_objects}
use Rattle.first_moves.proofs.json.push_later.Given as goal

abbrev pub invariant-loop-i : goal.invariant-loop-i
invariant-loop-i l = string_bytes l.text ++ later_objects l.names (drop l.i l.later) ≡ string_bytes l.fn.text ++ later_objects l.names l.later
