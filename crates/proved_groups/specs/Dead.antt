-- Groups that a judge has found to be dead.
use Rattle.std.specs.Prelude.{◌≡◌, ℕ, IsTrue, List}
use Rattle.go_points.specs.Grid.{opponent_of}
use Rattle.go_points.specs.Place.{Place, number_of}
use Rattle.go_points.specs.Points.{holds_place}
use Rattle.target_game.specs.State.{GameProblem, start}
use Rattle.target_game.specs.Legal.{holds_point}
use Rattle.dead_groups.specs.Claims.{IsDeadNow}
use Rattle.dead_groups.specs.Laws.{IsDeadByAnswers, IsDeadByMove}

-- the stones at these places are among those with these numbers
abbrev pub AreAmong : ℕ → List Place → List ℕ → Type 0
AreAmong n supposed stones = (p : Place) → IsTrue (holds_place supposed p) → IsTrue (holds_point stones (number_of n p))

-- The targets are dead by answers for the side that is to move, with whatever stones of the killer's only supposed to stand these are
-- among.
abbrev pub IsTakenNow : GameProblem → List Place → Type 0
IsTakenNow q supposed = (stones : List ℕ) → AreAmong q.game.size supposed stones → IsDeadNow stones (start q)

-- Nobody has just passed, and they are, whoever is to move.
abbrev pub IsLost : GameProblem → List Place → Type 0
IsLost q supposed = (q.passes ≡ 0) × ((stones : List ℕ) → AreAmong q.game.size supposed stones → IsDeadByAnswers (start q) stones)

-- Nobody has just passed, and they are where the killer moves, who is to move.
abbrev pub IsLostByMove : GameProblem → List Place → Type 0
IsLostByMove q supposed = (q.passes ≡ 0) × (q.mover ≡ opponent_of q.game.defender)
    × ((stones : List ℕ) → AreAmong q.game.size supposed stones → IsDeadByMove (start q) stones)
