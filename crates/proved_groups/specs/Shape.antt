-- Groups of which nothing has to be asked.
use Rattle.std.specs.Prelude.{◌≡◌, List, [], ◌∷◌, map}
use Rattle.go_points.specs.declared.Colour.{Colour}
use Rattle.go_points.specs.declared.Cell.{Cell}
use Rattle.go_points.specs.Grid.{side_of, points}
use Rattle.go_points.specs.Place.{Place, number_of}
use Rattle.pass_alive.specs.Life.{PassAlive}
use Rattle.pass_alive.specs.Sets.{game_of}

-- The stone of the colour k at the place lives by its shape if moves are made anywhere on the board.
abbrev pub LivesAnywhere : List Cell → Place → Colour → Type 0
LivesAnywhere c target k = (all : List Place) × (map (number_of (side_of c)) all ≡ points (side_of c)) × PassAlive (game_of (side_of c) (target ∷ []) k all) c
