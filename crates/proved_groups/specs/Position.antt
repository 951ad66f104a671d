-- Problems of stones in the position of another problem.
use Rattle.std.specs.Prelude.{◌≡◌, List, map, Ok}
use Rattle.go_points.specs.declared.Colour.{Colour}
use Rattle.go_points.specs.Grid.{points}
use Rattle.go_points.specs.Place.{Place, number_of}
use Rattle.target_game.specs.State.{GameProblem}
use Rattle.target_game.specs.Problem.{problem_of}

-- These stones are the targets, the region is the whole board, the position and its past are those of q, and nobody has just passed.
abbrev pub IsOfStones : GameProblem → List Place → GameProblem → Type 0
IsOfStones q stones made =
    (mover : Colour) × (region : List Place) × (map (number_of q.game.size) region ≡ points q.game.size)
    × (problem_of q.history q.place mover 0 stones region ≡ Ok made)
