use Rattle.target_game.proofs.Common.{◌≡◌, side_of, all_reach_empty}
use Rattle.target_game.proofs.Loops.{AllAfter}
use Rattle.target_game.proofs.questions.have_liberties.Given as goal

abbrev pub invariant-loop-colouring : goal.invariant-loop-colouring
invariant-loop-colouring l = (side_of l.board ≡ l.fn.size) × AllAfter (all_reach_empty l.fn.size) l.history l.colouring-index
