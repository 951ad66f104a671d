-- What a turn threatens: to win by moving again.
use Rattle.std.specs.Prelude.{◌≡◌, Some}
use Rattle.go_points.specs.Ply.{Ply}
use Rattle.target_game.specs.Next.{next}
use Rattle.target_game.specs.Over.{over}
use Rattle.target_game.specs.State.{GameProblem, start}
use Rattle.first_moves.specs.Judged.{IsProblemWith}

-- The turn ends the game, and the mover has won.
abbrev pub EndsWon : GameProblem → Ply → Type 0
EndsWon q t = over (next (start q) t) ≡ Some q.mover

-- The same position with the other side to move, and no pass before it.
abbrev pub IsSameSide : GameProblem → GameProblem → Type 0
IsSameSide later again = IsProblemWith later later.history later.place 0 again
