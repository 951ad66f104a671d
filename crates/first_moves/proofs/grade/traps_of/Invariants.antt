use Rattle.std.specs.List.{All}
use Rattle.first_moves.specs.Graded.{IsTrap}
use Rattle.first_moves.proofs.grade.traps_of.Given as goal

abbrev pub invariant-loop-i : goal.invariant-loop-i
invariant-loop-i l = All (IsTrap l.found) l.traps.items
