use Rattle.target_game.proofs.Common.{◌≡◌, list_all, on_board}
use Rattle.target_game.proofs.questions.are_on_board.Given as goal

abbrev pub invariant-loop-point : goal.invariant-loop-point
invariant-loop-point l =
    (goal.iterator-loop-point).can_next l.point-iterator
    × (goal.iterator-loop-point).is_finite l.point-iterator
    × (list_all (on_board l.size) l.point-iterator ≡ list_all (on_board l.size) l.points)
