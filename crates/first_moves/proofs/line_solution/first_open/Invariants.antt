use Rattle.first_moves.specs.Line.{has_one}
use Rattle.target_game.proofs.Loops.{AllAfter}
use Rattle.first_moves.proofs.line_solution.first_open.Given as goal

abbrev pub invariant-loop-i : goal.invariant-loop-i
invariant-loop-i l = AllAfter has_one l.later l.i
