use Rattle.go_chains.proofs.Common.{rules, ◌≡◌, ◌≢◌, ◌+◌, ◌*◌, ◌<◌, ◌≤◌, ℕ, List, slice_index, slice_set, sym, ◌∙◌, ap, subst, arith, get_or-set_same, get_or-set_other, Cell, Empty, Stone, MAX_POINTS, cell_at, side_of, number_of, nowhere, touches, empties_beside}
use Rattle.go_chains.proofs.Filling.{touches_few}
use Rattle.go_chains.proofs.Placing.{placed_circles, placed_counts}
use Rattle.go_chains.proofs.Quietness.{headless_beside}
use Rattle.go_chains.proofs.stones.place.Goals as goal

pub take_from-free-requires-clause-enough : goal.take_from-free-requires-clause-enough
take_from-free-requires-clause-enough c = λ j on own.
    let cells = c.args.colouring.now in
    let heads = c.args.heads.now in
    let n = side_of cells in
    let room : n * n ≤ MAX_POINTS = search rules in
    let on' : j < n * n = subst (λ (m : ℕ). j < m * m) c.size-size.ensures.value on in
    let free : cell_at cells c.args.number ≡ Empty = c.requires.settled.chains.empties c.args.number c.requires.on c.requires.free in
    let few = touches_few n cells heads j c.args.number c.requires.on free in
    let right = c.requires.settled.counted.right j on' (λ e. omega (arith, on', room, e)) own in
    subst (λ (m : ℕ). touches m heads j c.args.number ≤ slice_index c.args.counts.now j) (sym c.size-size.ensures.value) (subst (λ (t : ℕ). touches n heads j c.args.number ≤ t) (sym right) few)

-- the stone is put down at the number of the point
module _ (c : goal.After-set) where
  put : c.set.new.self ≡ slice_set c.args.colouring.now c.args.number (Stone c.args.colour)
  put = c.set.ensures.value ∙ ap (λ (q : ℕ). slice_set c.args.colouring.now q (Stone c.args.colour)) (ap (λ (m : ℕ). number_of m c.point_at.result) (sym c.size-size.ensures.value) ∙ c.point_at.ensures.number_back)

  here : cell_at c.set.new.self c.args.number ≡ Stone c.args.colour
  here = ap (λ (l : List Cell). cell_at l c.args.number) put ∙ get_or-set_same c.args.colouring.now c.args.number (Stone c.args.colour) Empty (omega (arith, c.requires.on, c.size-size.ensures.colouring.full))

  others : (q : ℕ) → q ≢ c.args.number → cell_at c.set.new.self q ≡ cell_at c.args.colouring.now q
  others q ne = ap (λ (l : List Cell). cell_at l q) put ∙ get_or-set_other c.args.colouring.now c.args.number q (Stone c.args.colour) Empty ne

pub returns-clause-chains : goal.returns-clause-chains
returns-clause-chains c =
    placed_circles (side_of c.args.colouring.now) c.args.colouring.now c.set.new.self c.args.heads.now c.args.next.now c.args.colour c.args.number (search rules) c.requires.settled.full.heads_full c.requires.settled.full.next_full c.requires.on c.requires.settled.chains c.requires.free
    (here c) (others c)

pub returns-clause-counted : goal.returns-clause-counted
returns-clause-counted c =
    let cells = c.args.colouring.now in
    let heads = c.args.heads.now in
    let n = side_of cells in
    let p = c.args.number in
    let room : n * n ≤ MAX_POINTS = search rules in
    let free : cell_at cells p ≡ Empty = c.requires.settled.chains.empties p c.requires.on c.requires.free in
    let lesser = c.take_from-free.new.counts in
    let more = slice_set lesser p c.take_from-free.result in
    let at_it : slice_index more p ≡ empties_beside n c.set.new.self p =
    get_or-set_same lesser p c.take_from-free.result 0 (omega (arith, c.requires.on, room, c.take_from-free.ensures.full)) ∙ c.take_from-free.ensures.free ∙ ap (λ (m : ℕ). touches m heads nowhere p) c.size-size.ensures.value
    ∙ headless_beside n cells c.set.new.self heads c.args.next.now p c.requires.settled.chains (others c) in
    let taken : (j : ℕ) → j < n * n → j ≢ p → slice_index heads j ≡ j → slice_index more j + touches n heads j p ≡ slice_index c.args.counts.now j =
    λ j on ne own. ap (λ (t : ℕ). t + touches n heads j p) (get_or-set_other lesser p j c.take_from-free.result 0 ne)
    ∙ ap (λ (m : ℕ). slice_index lesser j + touches m heads j p) (sym c.size-size.ensures.value) ∙ c.take_from-free.ensures.taken j (subst (λ (m : ℕ). j < m * m) (sym c.size-size.ensures.value) on) in
    placed_counts n cells c.set.new.self heads c.args.next.now c.args.colour p room c.requires.settled.full.heads_full c.requires.settled.full.next_full c.requires.on c.requires.settled.chains c.requires.free (here c) (others c)
    c.args.counts.now more free c.requires.settled.counted at_it taken
