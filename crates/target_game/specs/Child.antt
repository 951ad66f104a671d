-- What a turn leads to, without making it.
use Rattle.std.specs.Prelude.{if◌then◌else◌, Option, Some, None}
use Rattle.go_points.specs.Ply.{Ply}
use Rattle.stone_key.specs.Key.{key_of}
use Rattle.target_game.specs.declared.child.Child.{Child}
use Rattle.target_game.specs.State.{GameState}
use Rattle.target_game.specs.Legal.{legal}
use Rattle.target_game.specs.Next.{next}
use Rattle.target_game.specs.Over.{over}

-- The key of the colouring after the turn, and who has won then; `None` if the turn is not legal.
abbrev pub child_of : GameState → Ply → Option Child
child_of s t = (if legal s t then Some (record { key = key_of (next s t).colouring; winner = over (next s t) }) else None)
