use Rattle.first_moves.proofs.Common.{◌≡◌, ◌++◌, drop, string_bytes}
use Rattle.first_moves.specs.Json.{more_turns, quoted_turns}
use Rattle.first_moves.proofs.json.quoted_turns.Given as goal

abbrev pub invariant-loop-i : goal.invariant-loop-i
invariant-loop-i l = string_bytes l.text ++ more_turns l.names (drop l.i l.turns) ≡ quoted_turns l.names l.turns
