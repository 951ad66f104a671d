use Rattle.go_points.proofs.Common.{false, refl, sym, ◌∙◌}
use Rattle.go_points.proofs.Comparing.{unlike, stones_same, blacks_same}
use Rattle.go_points.proofs.Narrowing.{widened, wide_cells}
use Rattle.go_points.proofs.narrow_colouring.NarrowColouring.is.Goals as goal

pub returns-then-are_unlike : goal.returns-then-are_unlike
returns-then-are_unlike c =
    let a = c.colouring.inside in
    let b = c.self.inside in
    let wide = widened b.size b.stones b.blacks c.self.invariant in
    let same = wide_cells b.size b.stones b.blacks c.self.invariant ∙ c.self.view_is in
    unlike a.size b.size a.stones a.blacks _ _ c.args.colouring.now c.args.self.now c.colouring.invariant wide c.colouring.view_is same false refl
    (λ h. absurd (c.are_unlike.ensures c.if-are_unlike.true (sym (stones_same a.size b.size a.stones a.blacks _ _ c.args.colouring.now c.args.self.now c.colouring.invariant wide c.colouring.view_is same h))))

pub returns-then-are_unlike-2 : goal.returns-then-are_unlike-2
returns-then-are_unlike-2 c =
    let a = c.colouring.inside in
    let b = c.self.inside in
    let wide = widened b.size b.stones b.blacks c.self.invariant in
    let same = wide_cells b.size b.stones b.blacks c.self.invariant ∙ c.self.view_is in
    unlike a.size b.size a.stones a.blacks _ _ c.args.colouring.now c.args.self.now c.colouring.invariant wide c.colouring.view_is same false refl
    (λ h. absurd (c.are_unlike-2.ensures c.if-are_unlike-2.true (sym (blacks_same a.size b.size a.stones a.blacks _ _ c.args.colouring.now c.args.self.now c.colouring.invariant wide c.colouring.view_is same h))))
