use Rattle.go_chains.proofs.Common.{rules, ◌≡◌, ◌*◌, ◌<◌, ◌≤◌, ◌↔◌, IsTrue, ℕ, Bool, true, false, not, ◌&&◌, List, slice_set, refl, sym, ◌∙◌, ap, subst, list_any, Cell, Empty, Stone, MAX_POINTS, neighbours, cell_at, side_of, number_of, after_move, loses_last, lets_stay}
use Rattle.go_chains.proofs.Lacking.{settled_tells}
use Rattle.go_chains.proofs.Quietness.{quiet_is}
use Rattle.go_chains.proofs.chain_board.ChainBoard.quiet.Goals as goal
use Rattle.go_chains.proofs.chain_board.ChainBoard.quiet.Goals.{After-takes_chain}

pub takes_chain-requires-clause-tells : goal.takes_chain-requires-clause-tells
takes_chain-requires-clause-tells c =
    settled_tells (side_of c.self.inside.colouring) c.self.inside.colouring c.self.inside.heads c.self.inside.next c.self.inside.counts (search rules) c.self.invariant.settled

pub has_liberty-requires-clause-tells : goal.has_liberty-requires-clause-tells
has_liberty-requires-clause-tells c =
    settled_tells (side_of c.self.inside.colouring) c.self.inside.colouring c.self.inside.heads c.self.inside.next c.self.inside.counts (search rules) c.self.invariant.settled

-- both questions, as they are asked of the number of the point
quiet : (c : After-takes_chain) (takes stays : Bool) → takes ≡ c.takes_chain.result
    → stays ≡ list_any (lets_stay (side_of c.self.inside.colouring) c.self.inside.colouring c.self.inside.heads c.self.inside.counts c.args.colour c.number-number.result) (neighbours (side_of c.self.inside.colouring) c.number-number.result)
    → IsTrue (not takes && stays) ↔ (after_move (side_of c.args.self.now) c.args.self.now c.args.colour (number_of (side_of c.args.self.now) c.args.point) ≡ slice_set c.args.self.now (number_of (side_of c.args.self.now) c.args.point) (Stone c.args.colour))
quiet c takes stays takes_is stays_is =
    let parts = c.self.inside in
    let cells = parts.colouring in
    let n = side_of cells in
    let k = c.args.colour in
    let p = number_of n c.args.point in
    let room : n * n ≤ MAX_POINTS = search rules in
    let here : c.number-number.result ≡ p = c.number-number.ensures.value ∙ ap (λ (m : ℕ). number_of m c.args.point) c.size-size.ensures.value in
    let on : p < n * n = subst (λ (i : ℕ). i < n * n) here (subst (λ (m : ℕ). c.number-number.result < m * m) c.size-size.ensures.value c.number-number.ensures.within) in
    let loses : takes ≡ list_any (loses_last n cells parts.heads parts.counts k p) (neighbours n p) = takes_is ∙ c.takes_chain.ensures ∙ ap (λ (i : ℕ). list_any (loses_last n cells parts.heads parts.counts k i) (neighbours n i)) here in
    let lets : stays ≡ list_any (lets_stay n cells parts.heads parts.counts k p) (neighbours n p) = stays_is ∙ ap (λ (i : ℕ). list_any (lets_stay n cells parts.heads parts.counts k i) (neighbours n i)) here in
    subst (λ (v : List Cell). cell_at v (number_of (side_of v) c.args.point) ≡ Empty
    → IsTrue (not takes && stays) ↔ (after_move (side_of v) v k (number_of (side_of v) c.args.point) ≡ slice_set v (number_of (side_of v) c.args.point) (Stone k))) c.self.view_is
    (λ free. quiet_is n cells parts.heads parts.next parts.counts k p room c.size-size.ensures.colouring.full on free c.self.invariant takes stays loses lets) c.requires.empty

pub returns-then-not-takes_chain : goal.returns-then-not-takes_chain
returns-then-not-takes_chain c = quiet (goal.at.returns-then-not-takes_chain c).After-takes_chain false c.has_liberty.result (sym c.if-not-takes_chain.true) c.has_liberty.ensures

pub returns-else-not-takes_chain : goal.returns-else-not-takes_chain
returns-else-not-takes_chain c =
    let view = c.args.self.now in
    let p = number_of (side_of view) c.args.point in
    subst (λ (b : Bool). IsTrue (not b) ↔ (after_move (side_of view) view c.args.colour p ≡ slice_set view p (Stone c.args.colour))) (sym c.if-not-takes_chain.false)
    (quiet (goal.at.returns-else-not-takes_chain c).After-takes_chain true _ (sym c.if-not-takes_chain.false) refl)
