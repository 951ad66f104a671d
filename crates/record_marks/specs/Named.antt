-- Points and rectangles by the names that people give them, as the values of a property.
use Rattle.std.specs.Prelude.{ℕ, ◌+◌, Bool, ◌==◌, nat_le, List, [], ◌∷◌, take, drop, position, if◌then◌else◌, Option, Some, None, option_map, option_and_then}
use Rattle.std.specs.List.{slice_split}
use Rattle.go_points.specs.Place.{Place}
use Rattle.go_points.specs.Sgf.{sgf_text}
use Rattle.regions.specs.Named.{place_named}

abbrev pub is_comma : ℕ → Bool
is_comma c = c == 44

abbrev pub is_colon : ℕ → Bool
is_colon c = c == 58

abbrev pub lesser : ℕ → ℕ → ℕ
lesser x y = if nat_le x y then x else y

abbrev pub greater : ℕ → ℕ → ℕ
greater x y = if nat_le x y then y else x

-- FF[4], "Compressed point lists": the letters of a rectangle's upper left, a colon, and those of its lower right
abbrev pub corners : List ℕ → List ℕ → List ℕ
corners (c ∷ r ∷ []) (d ∷ s ∷ []) = lesser c d ∷ lesser r s ∷ 58 ∷ greater c d ∷ greater r s ∷ []
corners _ _ = []

-- a rectangle by any two opposite corners
abbrev pub rectangle_named : Option Place → Option Place → Option (List ℕ)
rectangle_named (Some p) (Some q) = Some (corners (sgf_text p) (sgf_text q))
rectangle_named _ _ = None

-- the value of a point, or of two with a colon between them, on a board of n rows
abbrev pub value_named : ℕ → List ℕ → Option (List ℕ)
value_named n name = elim (position is_colon name) [
  | Some i ↦ rectangle_named (place_named n (take i name)) (place_named n (drop (i + 1) name))
  | None ↦ option_map sgf_text (place_named n name)
]

-- the values of all these names, or `None` if one of them names nothing
abbrev pub values_of_each : ℕ → List (List ℕ) → Option (List (List ℕ))
values_of_each n [] = Some []
values_of_each n (name ∷ names) = option_and_then (λ value. option_map (λ values. value ∷ values) (values_of_each n names)) (value_named n name)

-- the values of the names in a text, with commas between them
abbrev pub values_named : ℕ → List ℕ → Option (List (List ℕ))
values_named n text = values_of_each n (slice_split is_comma text)
