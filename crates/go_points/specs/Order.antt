-- Colourings are ordered as their texts are, byte by byte.
use Rattle.std.specs.Prelude.{◌≡◌, ◌&&◌, nat_eq, List, [], ◌∷◌}
use Rattle.std.specs.Ordering.{on, nat_cmp, eq_by_cmp}
use Rattle.std.specs.Cmp.Lexicographic.{slice_cmp, pointwise, texts_ties}
use Rattle.std.proofs.Common.{Ordering, refl, ◌∙◌, ap₂}
use Rattle.go_points.specs.declared.Colour.TheVariants.{Black, White}
use Rattle.go_points.specs.declared.Cell.{Cell}
use Rattle.go_points.specs.declared.Cell.TheVariants.{Empty, Stone}
use Rattle.go_points.specs.Grid.{same_cell, same_cells}
use Rattle.go_points.specs.Text.{cell_code, text_of}

abbrev pub text_order : List Cell → List Cell → Ordering
text_order = on text_of (slice_cmp nat_cmp)

-- Cells that the order does not tell apart are the same.
code_ties : (a b : Cell) → same_cell a b ≡ nat_eq (cell_code a) (cell_code b)
code_ties Empty Empty = refl
code_ties Empty (Stone Black) = refl
code_ties Empty (Stone White) = refl
code_ties (Stone Black) Empty = refl
code_ties (Stone White) Empty = refl
code_ties (Stone Black) (Stone Black) = refl
code_ties (Stone Black) (Stone White) = refl
code_ties (Stone White) (Stone Black) = refl
code_ties (Stone White) (Stone White) = refl

each_ties : (c d : List Cell) → same_cells c d ≡ pointwise nat_eq (text_of c) (text_of d)
each_ties [] [] = refl
each_ties [] (b ∷ d) = refl
each_ties (a ∷ c) [] = refl
each_ties (a ∷ c) (b ∷ d) = ap₂ (λ x y. x && y) (code_ties a b) (each_ties c d)

pub same_cells_ties : (c d : List Cell) → same_cells c d ≡ eq_by_cmp text_order c d
same_cells_ties c d = each_ties c d ∙ texts_ties (text_of c) (text_of d)
