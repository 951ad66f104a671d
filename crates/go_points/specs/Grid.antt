-- The grid of points, and its colourings.
use Rattle.std.specs.Prelude.{◌≡◌, ◌≤◌, ℕ, ◌+◌, ◌*◌, ◌/◌, ◌%◌, Bool, true, false, ◌&&◌, ◌||◌, nat_eq, nat_lt, List, [], ◌∷◌, filter, slice_index_or, length, zero, suc, nat_le, if◌then◌else◌}
use Rattle.std.specs.List.{range_with_len}
use Rattle.go_points.specs.declared.TheConstants.{MAX_SIZE}
use Rattle.go_points.specs.declared.Colour.{Colour}
use Rattle.go_points.specs.declared.Colour.TheVariants.{Black, White}
use Rattle.go_points.specs.declared.Cell.{Cell}
use Rattle.go_points.specs.declared.Cell.TheVariants.{Empty, Stone}

-- The other colour.
abbrev pub opponent_of : Colour → Colour
opponent_of Black = White
opponent_of White = Black

-- Are two colours the same?
abbrev pub same_colour : Colour → Colour → Bool
same_colour Black Black = true
same_colour White White = true
same_colour _ _ = false

-- Do two points hold the same: nothing, or a stone of one colour?
abbrev pub same_cell : Cell → Cell → Bool
same_cell Empty Empty = true
same_cell (Stone x) (Stone y) = same_colour x y
same_cell _ _ = false

-- Are two colourings the same at every point?
abbrev pub same_cells : List Cell → List Cell → Bool
same_cells [] [] = true
same_cells (x ∷ xs) (y ∷ ys) = same_cell x y && same_cells xs ys
same_cells _ _ = false

-- The points of a board of n rows and n columns, in order: the numbers below n * n.
abbrev pub points : ℕ → List ℕ
points n = range_with_len 0 (n * n)

-- Point r * n + c is in row r and in column c.
abbrev pub row_of : ℕ → ℕ → ℕ
row_of n p = p / n

abbrev pub column_of : ℕ → ℕ → ℕ
column_of n p = p % n

-- Do two numbers differ by one?
abbrev pub differ_by_one : ℕ → ℕ → Bool
differ_by_one i j = nat_eq (i + 1) j || nat_eq (j + 1) i

-- Two points of the board are adjacent if they are in one row and in columns that differ by one, or in one column and in rows that
-- differ by one.
abbrev pub adjacent : ℕ → ℕ → ℕ → Bool
adjacent n p q = nat_lt p (n * n) && nat_lt q (n * n)
    && ((nat_eq (row_of n p) (row_of n q) && differ_by_one (column_of n p) (column_of n q))
    || (nat_eq (column_of n p) (column_of n q) && differ_by_one (row_of n p) (row_of n q)))

-- The points adjacent to a point, in order.
unfoldable pub neighbours : ℕ → ℕ → List ℕ
neighbours n p = filter (adjacent n p) (points n)

-- A colouring is the list of what the points hold, in order. This is what it holds at a point of the board.
abbrev pub cell_at : List Cell → ℕ → Cell
cell_at c p = slice_index_or c p Empty

-- The number of rows of a colouring: the square root of its length, rounded down.
abbrev pub side_up_to : ℕ → ℕ → ℕ
side_up_to length zero = 0
side_up_to length (suc r) = (if nat_le (suc r * suc r) length then suc r else side_up_to length r)

unfoldable pub side_of : List Cell → ℕ
side_of c = side_up_to (length c) (length c)

-- The list holds a cell for each point of a board of n rows, and boards of that size are played on.
pub record IsColouring (n : ℕ) (c : List Cell) : Type 0 where
  pub full : length c ≡ n * n
  pub least : 1 ≤ n
  pub most : n ≤ MAX_SIZE
