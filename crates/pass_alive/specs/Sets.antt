-- Sets of places, as sets of the points of a board.
use Rattle.std.specs.Prelude.{ℕ, ◌*◌, ◌⊎◌, IsTrue, List, [], map, if◌then◌else◌}
use Rattle.go_points.specs.declared.Colour.{Colour}
use Rattle.go_points.specs.declared.Cell.{Cell}
use Rattle.go_points.specs.Grid.{adjacent}
use Rattle.go_points.specs.Place.{Place, IsOn, on_board, number_of, place_of}
use Rattle.go_points.specs.Points.{holds_place}
use Rattle.target_game.specs.State.{Game}
use Rattle.pass_alive.specs.Life.{Points, Live}

-- The points of a board of n rows whose places are in the set.
abbrev pub these : ℕ → List Place → Points
these n s q = holds_place s (place_of n q)

-- Adjacent to a point of the set.
abbrev pub IsNear : ℕ → Points → ℕ → Type 0
IsNear n chain q = (r : ℕ) × IsTrue (adjacent n q r) × IsTrue (chain r)

-- The set with another set of points, and no more of them.
pub record IsWith (other old new : List Place) : Type 0 where
  pub kept : (p : Place) → IsTrue (holds_place old p) → IsTrue (holds_place new p)
  pub added : (p : Place) → IsTrue (holds_place other p) → IsTrue (holds_place new p)
  pub most : (p : Place) → IsTrue (holds_place new p) → IsTrue (holds_place old p) ⊎ IsTrue (holds_place other p)

-- The number of a place on that board. A place off the board gets a number that no point has.
abbrev pub number_on : ℕ → Place → ℕ
number_on n p = (if on_board n p then number_of n p else n * n)

-- The game on that board with these targets, of this colour, and this region.
abbrev pub game_of : ℕ → List Place → Colour → List Place → Game
game_of n targets k region = record { size = n; targets = map (number_on n) targets; defender = k; region = map (number_on n) region }

-- The set holds the stones of the colour k that live by their shape, and no others: it is on the board, they live, and whatever
-- stones live are in it.
pub record AreLiving (n : ℕ) (k : Colour) (region : List Place) (c : List Cell) (s : List Place) : Type 0 where
  pub on_board : (p : Place) → IsTrue (holds_place s p) → IsOn n p
  pub live : Live (game_of n [] k region) c (these n s)
  pub greatest : (stones : Points) → Live (game_of n [] k region) c stones → (q : ℕ) → IsTrue (stones q) → IsTrue (these n s q)
