-- The number of a point of the board.
use Rattle.go_points.proofs.Common.{mul-add-lt, ℕ, ◌*◌, ◌<◌, Place, IsOn, number_of}

-- the number of a point of the board
pub number_below : (n : ℕ) (p : Place) → IsOn n p → number_of n p < n * n
number_below n p on = mul-add-lt p.row n p.column n on.row_within on.column_within
