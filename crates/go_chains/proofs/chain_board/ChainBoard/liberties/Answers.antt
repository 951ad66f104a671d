use Rattle.go_chains.proofs.Common.{◌≡◌, ◌≢◌, ◌*◌, ◌<◌, ℕ, List, slice_index, ◌∙◌, ap, subst, Cell, MAX_POINTS, side_of, number_of, HoldsThose, AreLibertiesOf, is_liberty}
use Rattle.go_chains.proofs.Gathering.{liberties_are}
use Rattle.go_chains.proofs.chain_board.ChainBoard.liberties.Goals as goal

pub returns-clause-liberties : goal.returns-clause-liberties
returns-clause-liberties c =
    let cells = c.self.inside.colouring in
    let heads = c.self.inside.heads in
    let n = side_of cells in
    let p = number_of n c.args.point in
    let set = c.liberties_of.result in
    let here : c.number.result ≡ p = c.number.ensures.value ∙ ap (λ (m : ℕ). number_of m c.args.point) c.size-size.ensures.value in
    let those : HoldsThose n (is_liberty n cells heads (slice_index heads p)) set = subst (λ (i : ℕ). HoldsThose n (is_liberty n cells heads (slice_index heads i)) set) here c.liberties_of.ensures in
    let on : p < n * n = subst (λ (i : ℕ). i < n * n) here (subst (λ (m : ℕ). c.number.result < m * m) c.size-size.ensures.value c.number.ensures.within) in
    let stone : slice_index heads p ≢ MAX_POINTS = λ e. c.if-head-eq-NOWHERE.false (ap (slice_index heads) here ∙ e) in
    subst (λ (v : List Cell). AreLibertiesOf (side_of v) v (number_of (side_of v) c.args.point) set) c.self.view_is
    (liberties_are n cells heads c.self.inside.next p set c.self.invariant.settled.chains c.self.invariant.settled.closed on stone those)
