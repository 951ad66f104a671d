use Rattle.go_points.proofs.Common.{◌≤◌, ◌∙◌, ap₂, sym, subst, replicate, arith, List, ℕ, MAX_SIZE, packed_cells, packed_side, IsPacked, word_count}
use Rattle.go_points.proofs.Packing.{no_cells, empty_cells}
use Rattle.go_points.proofs.colouring.Colouring.empty.Goals as goal

pub invariant_of-result : goal.invariant_of-result
invariant_of-result c =
    let n = c.args.size in
    let least : 1 ≤ n = omega arith in
    let most : n ≤ MAX_SIZE = omega arith in
    subst (λ (w : List ℕ). IsPacked n w c.no_bits-2.result) (sym c.no_bits.ensures)
    (subst (λ (w : List ℕ). IsPacked n (replicate word_count 0) w) (sym c.no_bits-2.ensures) (no_cells n least most))

pub returns-clause-value : goal.returns-clause-value
returns-clause-value c = ap₂ (packed_cells c.args.size) c.no_bits.ensures c.no_bits-2.ensures ∙ empty_cells c.args.size

pub returns-clause-size : goal.returns-clause-size
returns-clause-size c = packed_side c.args.size c.no_bits.result c.no_bits-2.result
