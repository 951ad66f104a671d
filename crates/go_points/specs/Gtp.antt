-- Vertices as GTP 2 defines them ("Simple entity types", "Board coordinates"), read in any letter case: a letter for the column,
-- from the left, and one or two digits for the row, from the bottom; or the word pass.
use Rattle.std.specs.Prelude.{ℕ, ◌+◌, ◌-◌, ◌*◌, ◌/◌, ◌%◌, Bool, ◌&&◌, nat_le, nat_lt, List, [], ◌∷◌, codes, Option, Some, None, if◌then◌else◌}
use Rattle.std.specs.Char.{to_ascii_lowercase}
use Rattle.std.specs.Str.{bytes_eq, str_to_ascii_lowercase}
use Rattle.go_points.specs.Place.{Place}
use Rattle.go_points.specs.declared.vertex.Vertex.{Vertex}
use Rattle.go_points.specs.declared.vertex.Vertex.TheVariants.{Pass, At}

-- The column of a letter: a to z without i are 0 to 24.
abbrev pub column_named : ℕ → Option ℕ
column_named c = (if nat_le 97 c && nat_le c 104 then Some (c - 97) else (if nat_le 106 c && nat_le c 122 then Some (c - 98) else None))

abbrev pub is_digit : ℕ → Bool
is_digit c = nat_le 48 c && nat_le c 57

-- Row 1, the lowest, to row 25 are 0 to 24.
abbrev pub row_numbered : ℕ → Option ℕ
row_numbered number = (if nat_le 1 number && nat_le number 25 then Some (number - 1) else None)

abbrev pub row_named : List ℕ → Option ℕ
row_named (d ∷ []) = (if is_digit d then row_numbered (d - 48) else None)
row_named (d ∷ e ∷ []) = (if is_digit d && is_digit e then row_numbered (10 * (d - 48) + (e - 48)) else None)
row_named _ = None

abbrev pub vertex_at : Option ℕ → Option ℕ → Option Vertex
vertex_at (Some column) (Some row) = Some (At column row)
vertex_at _ _ = None

-- The vertex that a text names.
abbrev pub vertex_named : List ℕ → Option Vertex
vertex_named [] = None
vertex_named (c ∷ digits) = (if bytes_eq (str_to_ascii_lowercase (c ∷ digits)) (codes "pass") then Some Pass else vertex_at (column_named (to_ascii_lowercase c)) (row_named digits))

-- The letter of a column, and the one or two digits of a row.
abbrev pub column_letter : ℕ → ℕ
column_letter column = (if nat_lt column 8 then 65 + column else 66 + column)

abbrev pub row_digits : ℕ → List ℕ
row_digits number = (if nat_lt number 10 then (48 + number) ∷ [] else (48 + number / 10) ∷ (48 + number % 10) ∷ [])

-- The text of a point of a board of n rows.
abbrev pub gtp_text : ℕ → Place → List ℕ
gtp_text n p = column_letter p.column ∷ row_digits (n - p.row)
