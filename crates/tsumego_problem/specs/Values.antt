-- What the values of a Go record stand for.
use Rattle.std.specs.Prelude.{ℕ, ◌+◌, ◌-◌, ◌*◌, Bool, List, [], ◌∷◌, ◌++◌, reverse, filter, fold, codes, ◌&&◌, ◌==◌, nat_lt, nat_le, Option, Some, None, option_map, option_and_then, if◌then◌else◌}
use Rattle.std.specs.List.{list_any, list_all, before_first, after_first}
use Rattle.std.specs.Str.{bytes_eq, str_to_ascii_lowercase}
use Rattle.go_points.specs.declared.Colour.{Colour}
use Rattle.go_points.specs.declared.Colour.TheVariants.{Black, White}
use Rattle.go_points.specs.Grid.{points, row_of, column_of}
use Rattle.go_points.specs.Ply.{Ply, pass, move}
use Rattle.target_game.specs.Legal.{holds_point}
use Rattle.sgf_text.specs.Bytes.{is_white, is_lower}

-- The value without the white space at both its ends (this project's own).
abbrev pub skip_white : List ℕ → List ℕ
skip_white [] = []
skip_white (c ∷ rest) = if is_white c then skip_white rest else c ∷ rest

abbrev pub trim : List ℕ → List ℕ
trim value = reverse (skip_white (reverse (skip_white value)))

-- FF[4], Go, "Point": two lower-case letters, column and then row, with "aa" at the upper left, for a point on the board.
abbrev pub point_at : ℕ → ℕ → ℕ → Option ℕ
point_at n c r = if is_lower c && is_lower r && nat_lt (c - 97) n && nat_lt (r - 97) n then Some ((r - 97) * n + (c - 97)) else None

-- Is the point x neither left of nor above p, and neither right of nor below q?
abbrev pub inside : ℕ → ℕ → ℕ → ℕ → Bool
inside n p q x = nat_le (column_of n p) (column_of n x) && nat_le (column_of n x) (column_of n q) && nat_le (row_of n p) (row_of n x) && nat_le (row_of n x) (row_of n q)

-- FF[4], "Compressed point lists": the points of a rectangle from its upper left to its lower right, which may be one point (this project's own).
abbrev pub rectangle : ℕ → ℕ → ℕ → Option (List ℕ)
rectangle n p q = if nat_le (column_of n p) (column_of n q) && nat_le (row_of n p) (row_of n q) then Some (filter (inside n p q) (points n)) else None

-- the points of one value of AB, AW, AE, TR or SQ
abbrev pub points_named : ℕ → List ℕ → Option (List ℕ)
points_named n (c ∷ r ∷ []) = option_map (λ p. p ∷ []) (point_at n c r)
points_named n (c ∷ r ∷ colon ∷ d ∷ s ∷ []) = if colon == 58 then option_and_then (λ p. option_and_then (rectangle n p) (point_at n d s)) (point_at n c r) else None
points_named n _ = None

-- the points of all the values, or `None` if one of them names none
abbrev pub points_of_each : ℕ → List (List ℕ) → Option (List ℕ)
points_of_each n [] = Some []
points_of_each n (value ∷ values) = option_and_then (λ ps. option_map (λ qs. ps ++ qs) (points_of_each n values)) (points_named n (trim value))

-- The points of a property, ascending: one that is named twice counts once (this project's own).
abbrev pub points_of : ℕ → List (List ℕ) → Option (List ℕ)
points_of n values = option_map (λ ps. filter (holds_point ps) (points n)) (points_of_each n values)

-- FF[4], Go, "Move": a point, or a pass, which is an empty value or "tt" if that is not a point.
abbrev pub turn_named : ℕ → List ℕ → Option Ply
turn_named n [] = Some pass
turn_named n (c ∷ r ∷ []) = elim (point_at n c r) [ Some p ↦ Some (move p) | None ↦ (if c == 116 && r == 116 then Some pass else None) ]
turn_named n _ = None

abbrev pub turn_in : ℕ → List ℕ → Option Ply
turn_in n value = turn_named n (trim value)

abbrev pub is_digit : ℕ → Bool
is_digit d = nat_le 48 d && nat_le d 57

-- FF[4], "Number" from 0 on: digits, with or without "+" before them
abbrev pub digits_value : List ℕ → Option ℕ
digits_value [] = None
digits_value (c ∷ cs) = if list_all is_digit (c ∷ cs) then Some (fold (λ m d. 10 * m + (d - 48)) 0 (c ∷ cs)) else None

abbrev pub number_named : List ℕ → Option ℕ
number_named [] = None
number_named (c ∷ cs) = if c == 43 then digits_value cs else digits_value (c ∷ cs)

abbrev pub is_colon : ℕ → Bool
is_colon c = c == 58

-- two equal numbers
abbrev pub equal : Option ℕ → Option ℕ → Option ℕ
equal a b = option_and_then (λ n. option_and_then (λ m. if n == m then Some n else None) b) a

-- FF[4], SZ: a number, or a square's "n:n"
abbrev pub size_named : List ℕ → Option ℕ
size_named value = if list_any is_colon value then equal (number_named (before_first is_colon value)) (number_named (after_first is_colon value)) else number_named value

abbrev pub size_in : List ℕ → Option ℕ
size_in value = size_named (trim value)

-- FF[4], "Color", in any case, and as a word (both this project's own)
abbrev pub colour_named : List ℕ → Option Colour
colour_named word =
    if bytes_eq word (codes "b") then Some Black
    else (if bytes_eq word (codes "black") then Some Black
    else (if bytes_eq word (codes "w") then Some White
    else (if bytes_eq word (codes "white") then Some White
    else None)))

abbrev pub colour_in : List ℕ → Option Colour
colour_in value = colour_named (str_to_ascii_lowercase (trim value))
