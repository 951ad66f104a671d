use Rattle.target_game.proofs.Common.{◌*◌, nat_eq, length, List, Cell}
use Rattle.target_game.proofs.Loops.{AllAfter}
use Rattle.target_game.proofs.questions.are_of_size.Given as goal

abbrev pub invariant-loop-colouring : goal.invariant-loop-colouring
invariant-loop-colouring l = AllAfter (λ (c : List Cell). nat_eq (length c) (l.size * l.size)) l.history l.colouring-index
