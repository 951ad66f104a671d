-- A position after a move, from what the parts of it are.
use Rattle.std.specs.Prelude.{◌++◌, ◌∷◌, [], List, ℕ, Option, Some, None, IfSome, length}
use Rattle.go_points.specs.declared.Cell.{Cell}
use Rattle.go_points.specs.declared.Colour.{Colour}
use Rattle.go_points.specs.Grid.{opponent_of}
use Rattle.go_points.specs.Place.{Place}
use Rattle.target_game.specs.State.{GameProblem, start}
use Rattle.proved_groups.specs.After.{IsAfter, IsResult, IsWith}

pub after_of : (q : GameProblem) (mover : Colour) (point : Place) (before : GameProblem) (c : List Cell) (made : Option GameProblem) → IsWith q q.history q.place mover before → IsResult (start before) point c → IfSome made (IsWith q (q.history ++ (c ∷ [])) (length q.history) (opponent_of mover)) → IfSome made (IsAfter q mover point)
after_of q mover point before c (Some after) first result second = (before, c, first, result, second)
after_of q mover point before c None first result second = tt
