-- Points by row and column, and their numbers on a board.
use Rattle.std.specs.Prelude.{ℕ, ◌+◌, ◌*◌, ◌/◌, ◌%◌, ◌<◌, Bool, ◌&&◌, nat_lt}

-- A row and a column, both from 0 at the upper left. No size of a board is part of it.
pub record Place : Type 0 where
  pub row : ℕ
  pub column : ℕ

-- It is a point of the board of n rows and n columns.
pub record IsOn (n : ℕ) (p : Place) : Type 0 where
  pub row_within : p.row < n
  pub column_within : p.column < n

-- `IsOn` as a test.
abbrev pub on_board : ℕ → Place → Bool
on_board n p = nat_lt p.row n && nat_lt p.column n

-- The number of a point of that board.
abbrev pub number_of : ℕ → Place → ℕ
number_of n p = p.row * n + p.column

-- The place of the point with this number.
abbrev pub place_of : ℕ → ℕ → Place
place_of n p = record { row = p / n; column = p % n }
