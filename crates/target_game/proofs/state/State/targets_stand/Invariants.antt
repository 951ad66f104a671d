use Rattle.target_game.proofs.Common.{◌≡◌, All, list_all, Stone, cell_at, same_cell, Place, IsOn, number_of, colouring_of}
use Rattle.target_game.proofs.state.State.targets_stand.Given as goal

abbrev pub invariant-loop-point : goal.invariant-loop-point
invariant-loop-point g l =
    (goal.iterator-loop-point g).can_next l.point-iterator
    × (goal.iterator-loop-point g).is_finite l.point-iterator
    × All (IsOn l.self-inside.played.size) l.point-iterator
    × (list_all (λ (p : Place). same_cell (cell_at (colouring_of l.self-inside.played.present) (number_of l.self-inside.played.size p)) (Stone l.self-inside.defender)) l.point-iterator
    ≡ list_all (λ (p : Place). same_cell (cell_at (colouring_of l.self-inside.played.present) (number_of l.self-inside.played.size p)) (Stone l.self-inside.defender)) l.self-inside.targets)
