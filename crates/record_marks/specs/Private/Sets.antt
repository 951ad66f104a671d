-- Sets of points of a board.
use Rattle.std.specs.Prelude.{◌≡◌, ◌<◌, ◌*◌, ◌||◌, ℕ, List}
use Rattle.go_points.specs.Place.{Place, place_of}
use Rattle.go_points.specs.Points.{holds_place}

-- of the points of the board, the set holds those of both
abbrev pub HoldsBoth : ℕ → List Place → List Place → List Place → Type 0
HoldsBoth n first second all = (q : ℕ) → q < n * n → holds_place all (place_of n q) ≡ (holds_place first (place_of n q) || holds_place second (place_of n q))
