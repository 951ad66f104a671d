use Rattle.target_game.proofs.Common.{◌≡◌, All, list_all, same_cell, cell_at, side_of, Place, IsOn, number_of}
use Rattle.target_game.proofs.questions.all_hold.Given as goal

abbrev pub invariant-loop-point : goal.invariant-loop-point
invariant-loop-point l =
    (goal.iterator-loop-point).can_next l.point-iterator
    × (goal.iterator-loop-point).is_finite l.point-iterator
    × All (IsOn (side_of l.colouring)) l.point-iterator
    × (list_all (λ (p : Place). same_cell (cell_at l.colouring (number_of (side_of l.colouring) p)) l.cell) l.point-iterator ≡ list_all (λ (p : Place). same_cell (cell_at l.colouring (number_of (side_of l.colouring) p)) l.cell) l.points)
