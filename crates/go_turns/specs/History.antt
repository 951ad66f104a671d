-- The colourings that have occurred, in a list. The rules look only at which are in it.
use Rattle.std.specs.Prelude.{◌≡◌, ℕ, Bool, false, ◌||◌, List, [], ◌∷◌, ◌++◌, Option, Some, None, position}
use Rattle.std.specs.List.{list_any}
use Rattle.go_points.specs.declared.Cell.{Cell}
use Rattle.go_points.specs.Grid.{same_cells}
use Rattle.stone_key.specs.Key.{key_of}

-- Has this colouring occurred?
abbrev pub has_occurred : List (List Cell) → List Cell → Bool
has_occurred history c = list_any (same_cells c) history

-- The place of the first colouring of the list that is equal to it.
abbrev pub place_in : List (List Cell) → List Cell → Option ℕ
place_in history c = position (same_cells c) history

-- No colouring with this key has occurred.
abbrev pub HasNoneOf : List (List Cell) → ℕ → Type 0
HasNoneOf history key = (c : List Cell) → key_of c ≡ key → place_in history c ≡ None

-- Does a colouring occur twice?
abbrev pub repeats : List (List Cell) → Bool
repeats [] = false
repeats (c ∷ cs) = has_occurred cs c || repeats cs

-- A list joined by a colouring that was looked for in it: unchanged if the colouring is already there, otherwise longer by it.
abbrev pub IsJoined : Option ℕ → List (List Cell) → List Cell → List (List Cell) → Type 0
IsJoined (Some earlier) old c new = new ≡ old
IsJoined None old c new = new ≡ old ++ c ∷ []
