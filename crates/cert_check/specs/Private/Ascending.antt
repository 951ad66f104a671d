-- Lists of colourings that ascend: each is before the next, byte by byte of their texts.
--     apart      none of the first list is on the second
--     is_it, comes_before      whether what is at a place, if anything, is the colouring, or is before it
use Rattle.std.specs.Prelude.{◌≡◌, Bool, false, not, List, [], ◌∷◌, Option, Some, None}
use Rattle.std.specs.List.{list_all}
use Rattle.std.specs.Ordering.{is_lt}
use Rattle.std.proofs.Common.{Less}
use Rattle.go_points.specs.declared.Cell.{Cell}
use Rattle.go_points.specs.Grid.{same_cells}
use Rattle.go_points.specs.Order.{text_order}
use Rattle.go_turns.specs.History.{has_occurred}

abbrev pub IsBefore : List Cell → List (List Cell) → Type 0
IsBefore c [] = Unit {0}
IsBefore c (d ∷ cs) = text_order c d ≡ Less

abbrev pub Ascends : List (List Cell) → Type 0
Ascends [] = Unit {0}
Ascends (c ∷ cs) = IsBefore c cs × Ascends cs

abbrev pub apart : List (List Cell) → List (List Cell) → Bool
apart xs ys = list_all (λ x. not (has_occurred ys x)) xs

abbrev pub is_it : Option (List Cell) → List Cell → Bool
is_it None c = false
is_it (Some d) c = same_cells d c

abbrev pub comes_before : Option (List Cell) → List Cell → Bool
comes_before None c = false
comes_before (Some d) c = is_lt (text_order d c)
