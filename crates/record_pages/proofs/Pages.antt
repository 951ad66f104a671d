-- What the questions about a page have for an answer.
use Rattle.std.proofs.Common.{◌≡◌, true, List, sym, ap, ◌∙◌}
use Rattle.std.specs.Cmp.Lexicographic.{pointwise, pointwise_decides}
use Rattle.go_points.specs.declared.Cell.{Cell}
use Rattle.go_points.specs.Equal.{same_cells_eq, same_cells_refl, same_place_decides}
use Rattle.go_points.specs.Grid.{same_cells}
use Rattle.go_points.specs.Place.{Place}
use Rattle.go_points.specs.Points.{same_places}

same_cells_decides : (x y : List Cell) → (same_cells x y ≡ true → x ≡ y) × (x ≡ y → same_cells x y ≡ true)
same_cells_decides x y = (same_cells_eq x y, λ e. ap (same_cells x) (sym e) ∙ same_cells_refl x)

pub lists_same : (xs ys : List (List Cell)) → pointwise same_cells xs ys ≡ true → ys ≡ xs
lists_same xs ys h = sym ((pointwise_decides same_cells_decides xs ys).0 h)

pub places_same : (ps qs : List Place) → same_places ps qs ≡ true → qs ≡ ps
places_same ps qs h = sym ((pointwise_decides same_place_decides ps qs).0 h)
