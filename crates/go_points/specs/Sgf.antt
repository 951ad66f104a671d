-- Points in SGF's letters (SGF FF[4], "Go (GM=1) specific properties"): two lower-case letters, the first for the column and the
-- second for the row, with `aa` at the upper left.
use Rattle.std.specs.Prelude.{ℕ, ◌+◌, ◌-◌, Bool, ◌&&◌, nat_le, nat_lt, List, [], ◌∷◌, Option, Some, None, if◌then◌else◌}
use Rattle.go_points.specs.Place.{Place}

-- Is the byte one of the first n letters, counted from `a`?
abbrev pub is_letter : ℕ → ℕ → Bool
is_letter n x = nat_le 97 x && nat_lt (x - 97) n

-- The point of a board of n rows with these letters.
abbrev pub sgf_place : ℕ → List ℕ → Option Place
sgf_place n (x ∷ y ∷ []) = (if is_letter n x && is_letter n y then Some (record { row = y - 97; column = x - 97 }) else None)
sgf_place n _ = None

-- The two letters of a point.
abbrev pub sgf_text : Place → List ℕ
sgf_text p = (97 + p.column) ∷ (97 + p.row) ∷ []
