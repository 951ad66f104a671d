-- Points by the names that people give them.
use Rattle.std.specs.Prelude.{ℕ, ◌-◌, ◌&&◌, nat_lt, List, Option, Some, None, if◌then◌else◌}
use Rattle.std.specs.Str.{str_to_ascii_lowercase}
use Rattle.go_points.specs.declared.vertex.Vertex.{Vertex}
use Rattle.go_points.specs.declared.vertex.Vertex.TheVariants.{Pass, At}
use Rattle.go_points.specs.Gtp.{vertex_named}
use Rattle.go_points.specs.Place.{Place}
use Rattle.go_points.specs.Sgf.{sgf_place}

-- the point of a vertex, whose row is counted from the bottom, if a board of n rows has it
abbrev pub place_at : ℕ → Option Vertex → Option Place
place_at n None = None
place_at n (Some Pass) = None
place_at n (Some (At column row)) = if nat_lt column n && nat_lt row n then Some (record { row = n - 1 - row; column = column }) else None

-- The point of this name, in any letter case: two letters as in SGF, or else a letter and a number as at the edge of a board.
abbrev pub place_named : ℕ → List ℕ → Option Place
place_named n text = elim (sgf_place n (str_to_ascii_lowercase text)) [ Some p ↦ Some p | None ↦ place_at n (vertex_named text) ]
