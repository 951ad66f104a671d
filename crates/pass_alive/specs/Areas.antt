-- The areas between the stones of one colour, as the chains of another board.
use Rattle.std.specs.Prelude.{◌≡◌, ℕ, ◌*◌, ◌<◌, List, if◌then◌else◌}
use Rattle.go_points.specs.declared.Colour.{Colour}
use Rattle.go_points.specs.declared.Cell.{Cell}
use Rattle.go_points.specs.declared.Cell.TheVariants.{Empty, Stone}
use Rattle.go_points.specs.Grid.{opponent_of, same_cell, cell_at, side_of}

-- What that board holds at a point: nothing at a stone of the colour, and a stone of the other colour elsewhere.
abbrev pub area_cell : Colour → Cell → Cell
area_cell k x = (if same_cell x (Stone k) then Empty else Stone (opponent_of k))

pub record AreAreas (k : Colour) (c a : List Cell) : Type 0 where
  pub size : side_of a ≡ side_of c
  pub cells : (q : ℕ) → q < side_of c * side_of c → cell_at a q ≡ area_cell k (cell_at c q)
