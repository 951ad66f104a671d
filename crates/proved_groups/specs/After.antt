-- What is proved of a group after a move.
use Rattle.std.specs.Prelude.{◌≡◌, ℕ, true, List, [], ◌∷◌, ◌++◌, length, map, Ok}
use Rattle.go_points.specs.declared.Cell.{Cell}
use Rattle.go_points.specs.declared.Colour.{Colour}
use Rattle.go_points.specs.Grid.{opponent_of, points}
use Rattle.go_points.specs.Move.{after_move}
use Rattle.go_points.specs.Place.{Place, IsOn, number_of}
use Rattle.go_points.specs.Ply.{move}
use Rattle.target_game.specs.Legal.{legal}
use Rattle.target_game.specs.Problem.{problem_of}
use Rattle.target_game.specs.State.{GameProblem, GameState, start}
use Rattle.proved_groups.specs.Proven.{IsOfStone, IsOfStoneByMove}
use Rattle.proved_groups.specs.declared.move_answer.AnswerTo.{AnswerTo}
use Rattle.proved_groups.specs.declared.move_answer.AnswerTo.TheVariants.{Barred, Pass, Move, Unknown}

-- the targets of q, with this past, this side to move, and moves allowed everywhere
abbrev pub IsWith : GameProblem → List (List Cell) → ℕ → Colour → GameProblem → Type 0
IsWith q history place mover made =
    (targets region : List Place) × (map (number_of q.game.size) targets ≡ q.game.targets)
    × (map (number_of q.game.size) region ≡ points q.game.size)
    × (problem_of history place mover 0 targets region ≡ Ok made)

-- The mover may play at the point, and this is the colouring then.
abbrev pub IsResult : GameState → Place → List Cell → Type 0
IsResult s point c =
    IsOn s.game.size point × (legal s (move (number_of s.game.size point)) ≡ true)
    × (c ≡ after_move s.game.size s.colouring s.mover (number_of s.game.size point))

-- The position of q after the move of this side at the point, with the past of q; the other side is to move.
abbrev pub IsAfter : GameProblem → Colour → Place → GameProblem → Type 0
IsAfter q mover point after =
    (before : GameProblem) × (c : List Cell) × IsWith q q.history q.place mover before × IsResult (start before) point c
    × IsWith q (q.history ++ (c ∷ [])) (length q.history) (opponent_of mover) after

-- What is proved is proved of the stone at the target, in the position after the move.
abbrev pub IsAnswerTo : GameProblem → Place → Colour → Place → AnswerTo → Type 0
IsAnswerTo q target mover point Barred = Unit {0}
IsAnswerTo q target mover point (Pass p) = (after : GameProblem) × IsAfter q mover point after × IsOfStone after target p
IsAnswerTo q target mover point (Move p) = (after : GameProblem) × IsAfter q mover point after × IsOfStoneByMove after target p
IsAnswerTo q target mover point Unknown = Unit {0}
