-- Stones that are placed outside a region.
use Rattle.std.specs.Prelude.{◌≡◌, ℕ, ◌*◌, ◌<◌, Bool, ◌&&◌, not, List, if◌then◌else◌}
use Rattle.go_points.specs.declared.Colour.{Colour}
use Rattle.go_points.specs.declared.Cell.{Cell}
use Rattle.go_points.specs.declared.Cell.TheVariants.{Empty, Stone}
use Rattle.go_points.specs.Grid.{cell_at, side_of, same_cell, opponent_of}
use Rattle.go_points.specs.Place.{Place, place_of}
use Rattle.go_points.specs.Points.{holds_place}
use Rattle.regions.specs.declared.supposed.Supposed.{Supposed}

-- whether a stone is placed at the point with this number: it is one of the points, not inside, and empty
abbrev pub is_put : List Place → List Place → List Cell → ℕ → Bool
is_put inside points before i =
    holds_place points (place_of (side_of before) i) && not (holds_place inside (place_of (side_of before) i)) && same_cell (cell_at before i) Empty

-- what the point with this number holds afterwards
abbrev pub cell_put : List Place → List Place → Colour → List Cell → ℕ → Cell
cell_put inside points colour before i = if is_put inside points before i then Stone colour else cell_at before i

-- the colouring that differs from another by stones of this colour at those of the points that are empty and not inside
abbrev pub IsPutUp : List Place → List Place → Colour → List Cell → List Cell → Type 0
IsPutUp inside points colour before after =
    (side_of after ≡ side_of before) × ((i : ℕ) → i < side_of before * side_of before → cell_at after i ≡ cell_put inside points colour before i)

-- The colouring differs from the given one only by stones that were placed outside the region: the defender's first, then the
-- attacker's. Existing stones stay, and nothing is changed inside.
abbrev pub IsSupposed : List Cell → Supposed → Type 0
IsSupposed before s =
    (between : List Cell) × IsPutUp s.inside s.given s.defender before between × IsPutUp s.inside s.walls (opponent_of s.defender) between s.colouring
