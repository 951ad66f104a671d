use Rattle.go_points.proofs.Common.{◌≤◌, List, ℕ, sym, ◌∙◌, ap₂, subst, NARROW_SIZE, packed_cells, narrow_count, first_words, IsNarrow}
use Rattle.go_points.proofs.Packing.{side_packed}
use Rattle.go_points.proofs.Narrowing.{narrowed, narrow_cells}
use Rattle.go_points.proofs.narrow_colouring.NarrowColouring.of.Goals as goal
use Rattle.go_points.proofs.narrow_colouring.NarrowColouring.of.Goals.{After-narrow_bits-2}

most : (c : After-narrow_bits-2) → c.colouring.inside.size ≤ NARROW_SIZE
most c =
    let a = c.colouring.inside in
    subst (λ (m : ℕ). m ≤ NARROW_SIZE) (side_packed a.size a.stones a.blacks c.args.colouring.now c.colouring.invariant c.colouring.view_is) c.requires

pub invariant_of-result : goal.invariant_of-result
invariant_of-result c =
    let a = c.colouring.inside in
    subst (λ (w : List ℕ). IsNarrow a.size w c.narrow_bits-2.result) (sym c.narrow_bits.ensures)
    (subst (λ (w : List ℕ). IsNarrow a.size (first_words narrow_count a.stones) w) (sym c.narrow_bits-2.ensures) (narrowed a.size a.stones a.blacks c.colouring.invariant (most c)))

pub returns : goal.returns
returns c =
    let a = c.colouring.inside in
    ap₂ (packed_cells a.size) c.narrow_bits.ensures c.narrow_bits-2.ensures ∙ narrow_cells a.size a.stones a.blacks c.colouring.invariant (most c) ∙ c.colouring.view_is
