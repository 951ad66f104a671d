use Rattle.go_chains.proofs.Common.{rules, ◌≡◌, ◌+◌, ◌*◌, ◌≤◌, ◌⊎◌, inl, inr, ℕ, true, List, map, take, refl, sym, ◌∙◌, ap, subst, get_or-set_same, Cell, Empty, Stone, MAX_POINTS, adjacent, neighbours, cell_at, side_of, number_of, IsIn, HasCircles, HasCounts, KeepsTogether, KeepsOthers, nowhere}
use Rattle.go_chains.proofs.Beside.{in_more, all_beside, is_beside}
use Rattle.go_chains.proofs.Filling.{FilledSoFar, filled_start, filled_step, filled_end}
use Rattle.go_chains.proofs.stones.fill.Goals as goal

pub loop-neighbour-init : goal.loop-neighbour-init
loop-neighbour-init c =
    let cells = c.args.colouring.now in
    let n = side_of cells in
    let room : n * n ≤ MAX_POINTS = search rules in
    filled_start n cells c.place.new.colouring c.args.heads.now c.place.new.heads c.args.next.now c.args.counts.now c.place.new.next c.place.new.counts c.args.colour c.args.number room (search rules) c.requires.on c.requires.free c.requires.settled
    c.place.ensures.cells c.place.ensures.heads c.place.ensures.full c.place.ensures.chains c.place.ensures.counted

pub join-requires-clause-beside : goal.join-requires-clause-beside
join-requires-clause-beside c =
    let s = c.size-size.result in
    subst (λ (m : ℕ). adjacent m c.args.number c.number.result ≡ true) c.size-size.ensures.value
    (subst (λ (q : ℕ). adjacent s c.args.number q ≡ true) (sym c.number.ensures.value)
    (is_beside c.point_at.result refl c.neighbours-neighbours.ensures.exact c.point_at.ensures.number_back c.as_slice-neighbour-items.ensures.value c.loop-neighbour.neighbour-index c.neighbour-item.result c.loop-neighbour-test.true c.neighbour-item.is))

pub loop-neighbour-preserved : goal.loop-neighbour-preserved
loop-neighbour-preserved c =
    let n = side_of c.args.colouring.now in
    let after = c.place.new.colouring in
    let items = c.as_slice-neighbour-items.result.now in
    let i = c.loop-neighbour.neighbour-index in
    let x = c.neighbour-item.result in
    let number : number_of n x ≡ c.number.result = sym (c.number.ensures.value ∙ ap (λ (m : ℕ). number_of m x) (c.size-size.ensures.value ∙ c.place.ensures.size)) in
    let last : (q : ℕ) → IsIn q (map (number_of n) (take (i + 1) items)) → IsIn q (map (number_of n) (take i items)) ⊎ (q ≡ c.number.result) =
    λ q m. elim (in_more (number_of n) items i x c.loop-neighbour-test.true c.neighbour-item.is q m) [ inl before ↦ inl before | inr here ↦ inr (here ∙ number) ] in
    filled_step n after c.args.heads.now c.loop-neighbour.heads c.loop-neighbour.next c.loop-neighbour.counts c.join.new.heads c.join.new.next c.join.new.counts c.args.colour c.args.number c.number.result
    (map (number_of n) (take i items)) (map (number_of n) (take (i + 1) items)) c.requires.on last c.join.ensures.full
    (subst (λ (m : ℕ). HasCircles m after c.join.new.heads c.join.new.next) c.place.ensures.size c.join.ensures.chains)
    (subst (λ (m : ℕ). HasCounts m after c.join.new.heads c.join.new.counts nowhere) c.place.ensures.size c.join.ensures.counted)
    (subst (λ (m : ℕ). KeepsTogether m c.loop-neighbour.heads c.join.new.heads) c.place.ensures.size c.join.ensures.together)
    (subst (λ (m : ℕ). KeepsOthers m c.args.number c.loop-neighbour.heads c.join.new.heads) c.place.ensures.size c.join.ensures.others)
    c.join.ensures.bound c.loop-neighbour.invariant

pub returns-clause-settled : goal.returns-clause-settled
returns-clause-settled c =
    let cells = c.args.colouring.now in
    let n = side_of cells in
    let after = c.place.new.colouring in
    let items = c.as_slice-neighbour-items.result.now in
    let those : map (number_of n) (take c.loop-neighbour.neighbour-index items) ≡ neighbours n c.args.number = all_beside c.point_at.result (c.size-size.ensures.value ∙ c.place.ensures.size) c.neighbours-neighbours.ensures.exact c.point_at.ensures.number_back c.as_slice-neighbour-items.ensures.value c.loop-neighbour.neighbour-index c.loop-neighbour-test.false in
    let whole = c.size-size.ensures.colouring.full in
    let here : cell_at after c.args.number ≡ Stone c.args.colour = ap (λ (l : List Cell). cell_at l c.args.number) c.place.ensures.cells ∙ get_or-set_same cells c.args.number (Stone c.args.colour) Empty (search rules) in
    filled_end n after c.args.heads.now c.loop-neighbour.heads c.loop-neighbour.next c.loop-neighbour.counts c.args.colour c.args.number here
    (subst (FilledSoFar n after c.args.heads.now c.loop-neighbour.heads c.loop-neighbour.next c.loop-neighbour.counts c.args.colour c.args.number) those c.loop-neighbour.invariant)
