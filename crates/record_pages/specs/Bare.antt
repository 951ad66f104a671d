-- A problem without the game before it.
use Rattle.std.specs.Prelude.{◌≡◌, List, [], ◌∷◌, map, Ok}
use Rattle.go_points.specs.Place.{Place, number_of}
use Rattle.go_points.specs.declared.Cell.{Cell}
use Rattle.target_game.specs.State.{GameProblem, start}
use Rattle.target_game.specs.Problem.{problem_of}

-- the problem with this history, whose first position is the present one; everything else is as in the other problem
abbrev pub IsAlone : GameProblem → List (List Cell) → GameProblem → Type 0
IsAlone q history bare =
    (targets : List Place) × (region : List Place)
    × (map (number_of q.game.size) targets ≡ q.game.targets) × (map (number_of q.game.size) region ≡ q.game.region)
    × (problem_of history 0 q.mover q.passes targets region ≡ Ok bare)

-- the problem of the present position, in which no other position has occurred
abbrev pub IsBare : GameProblem → GameProblem → Type 0
IsBare q bare = IsAlone q ((start q).colouring ∷ []) bare
