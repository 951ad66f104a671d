use Rattle.go_chains.proofs.Common.{rules, ◌≡◌, ◌*◌, ◌≤◌, ℕ, Bool, cond, List, length, map, take, sym, ◌∙◌, ap, arith, length-map, length-take-le, MAX_POINTS, Cell, Empty, same_cell, cell_at, side_of, neighbours, number_of}
use Rattle.go_chains.proofs.Totals.{total_most}
use Rattle.go_chains.proofs.Counts.{neighbours_most, at_most_one}
use Rattle.go_chains.proofs.Beside.{total_more}
use Rattle.go_chains.proofs.stones.empties_at.Goals as goal
use Rattle.go_chains.proofs.stones.empties_at.Goals.{then-is_empty, else-is_empty}

pub overflow_add-found : goal.overflow_add-found
overflow_add-found c =
    let cells = c.args.colouring.now in
    let n = side_of cells in
    let items = c.as_slice-neighbour-items.result.now in
    let i = c.loop-neighbour.neighbour-index in
    let f : ℕ → ℕ = λ e. cond {A = ℕ} (same_cell (cell_at cells e) Empty) 1 0 in
    let passed = map (number_of n) (take i items) in
    let most = total_most f 1 passed (λ e. at_most_one (same_cell (cell_at cells e) Empty)) in
    let room : n * n ≤ MAX_POINTS = search rules in
    let long : length passed ≡ i = length-map (take i items) (number_of n) ∙ length-take-le i items (omega (arith, c.loop-neighbour-test.true)) in
    let those : length items ≡ length (neighbours n c.args.number) =
    sym (length-map items (number_of n)) ∙ ap (λ (l : List ℕ). length l) (ap (map (number_of n)) c.as_slice-neighbour-items.ensures.value ∙ ap (λ (m : ℕ). map (number_of m) c.neighbours-neighbours.result.items) (sym c.size-size.ensures.value)
    ∙ c.neighbours-neighbours.ensures.exact ∙ ap (neighbours c.size-size.result) c.point_at.ensures.number_back ∙ ap (λ (m : ℕ). neighbours m c.args.number) c.size-size.ensures.value) in
    let few = neighbours_most n c.args.number in
    let within = c.loop-neighbour-test.true in
    omega (arith, c.loop-neighbour.invariant, most, long, those, few, within, room)

pub loop-neighbour-preserved : goal.loop-neighbour-preserved
loop-neighbour-preserved c =
    let cells = c.args.colouring.now in
    let n = side_of cells in
    let items = c.as_slice-neighbour-items.result.now in
    let i = c.loop-neighbour.neighbour-index in
    let x = c.neighbour-item.result in
    let f : ℕ → ℕ = λ e. cond {A = ℕ} (same_cell (cell_at cells e) Empty) 1 0 in
    let more = total_more (number_of n) items i x c.loop-neighbour-test.true c.neighbour-item.is f in
    let test : same_cell (cell_at cells (number_of n x)) Empty ≡ c.is_empty.result = sym (c.is_empty.ensures ∙ ap (λ (a : Cell). same_cell a Empty) c.get.ensures.value) in
    elim c.if-is_empty.branch [
      | then-is_empty w ↦ (let one : f (number_of n x) ≡ 1 = ap (λ (b : Bool). cond {A = ℕ} b 1 0) (test ∙ w.if-is_empty.true) in omega (arith, w.found-is, c.loop-neighbour.invariant, more, one))
      | else-is_empty w ↦ (let none : f (number_of n x) ≡ 0 = ap (λ (b : Bool). cond {A = ℕ} b 1 0) (test ∙ w.if-is_empty.false) in omega (arith, w.found-is, c.loop-neighbour.invariant, more, none))
    ]
