use Rattle.go_points.proofs.Common.{List, ℕ, sym, ◌∙◌, ap₂, subst, packed_cells, IsPacked, first_words, word_count}
use Rattle.go_points.proofs.Narrowing.{widened, wide_cells}
use Rattle.go_points.proofs.narrow_colouring.NarrowColouring.widen.Goals as goal

pub invariant_of-result : goal.invariant_of-result
invariant_of-result c =
    let a = c.self.inside in
    subst (λ (w : List ℕ). IsPacked a.size w c.wide_bits-2.result) (sym c.wide_bits.ensures)
    (subst (λ (w : List ℕ). IsPacked a.size (first_words word_count a.stones) w) (sym c.wide_bits-2.ensures) (widened a.size a.stones a.blacks c.self.invariant))

pub returns : goal.returns
returns c =
    let a = c.self.inside in
    ap₂ (packed_cells a.size) c.wide_bits.ensures c.wide_bits-2.ensures ∙ wide_cells a.size a.stones a.blacks c.self.invariant ∙ c.self.view_is
