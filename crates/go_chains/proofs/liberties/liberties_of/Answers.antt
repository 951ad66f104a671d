use Rattle.go_chains.proofs.Common.{◌≡◌, ◌+◌, ◌<◌, ◌≤◌, ℕ, Bool, true, false, ◌&&◌, nat_lt, List, sym, ◌∙◌, ap, ap₂, subst, Cell, Empty, same_cell, cell_at, side_of, Place, IsOn, number_of, place_of, with_place, touches, is_liberty}
use Rattle.go_chains.proofs.Gathering.{HeldSoFar, held_yes, held_no, above, not_above}
use Rattle.go_chains.proofs.liberties.liberties_of.Goals as goal
use Rattle.go_chains.proofs.liberties.liberties_of.Goals.{then-is_empty+then-shared-gt0, else-is_empty, else-is_empty-via-then-is_empty+else-shared-gt0, else-is_empty-via-else-is_empty}

pub loop-number-preserved : goal.loop-number-preserved
loop-number-preserved c =
    let cells = c.args.colouring.now in
    let n = side_of cells in
    let s = c.size-size.result in
    let i = c.loop-number.number in
    let heads = c.args.heads.now in
    let h = c.args.head in
    let same = c.size-size.ensures.value in
    let test : ℕ → Bool = is_liberty n cells heads h in
    let at : number_of n c.point_at-point.result ≡ i = ap (λ (m : ℕ). number_of m c.point_at-point.result) (sym same) ∙ c.point_at-point.ensures.number_back in
    let place : c.point_at-point.result ≡ place_of n i = c.point_at-point.ensures.place ∙ ap (λ (m : ℕ). place_of m i) same in
    let on_board : IsOn n (place_of n i) = subst (IsOn n) place (subst (λ (m : ℕ). IsOn m c.point_at-point.result) same c.point_at-point.ensures.on_board) in
    let cell : same_cell (cell_at cells i) Empty ≡ c.is_empty.result = sym (c.is_empty.ensures ∙ ap (λ (a : Cell). same_cell a Empty) (c.get.ensures.value ∙ ap (cell_at cells) at)) in
    elim c.if-is_empty.branch [
      | then-is_empty+then-shared-gt0 w ↦
          (let some : nat_lt 0 (touches n heads h i) ≡ true = above (touches n heads h i) (subst (λ (t : ℕ). 0 < t) (w.shared.ensures ∙ ap (λ (m : ℕ). touches m heads h i) same) w.if-shared-gt0.true) in
          subst (λ (l : List Place). HeldSoFar n test l (i + 1)) (sym (w.set-is ∙ w.insert.ensures ∙ ap (with_place c.loop-number.set) place))
          (held_yes n test c.loop-number.set i on_board (ap₂ (λ (a b : Bool). a && b) (cell ∙ w.if-is_empty.true) some) c.loop-number.invariant))
      | else-is_empty w ↦ subst (λ (l : List Place). HeldSoFar n test l (i + 1)) (sym w.set-is) (elim w.else-is_empty.branch [
        | else-is_empty-via-then-is_empty+else-shared-gt0 w' ↦
            (let none : nat_lt 0 (touches n heads h i) ≡ false = not_above (touches n heads h i) (subst (λ (t : ℕ). t ≤ 0) (w'.shared.ensures ∙ ap (λ (m : ℕ). touches m heads h i) same) w'.if-shared-gt0.false) in
            held_no n test c.loop-number.set i (ap₂ (λ (a b : Bool). a && b) (cell ∙ w'.if-is_empty.true) none) c.loop-number.invariant)
        | else-is_empty-via-else-is_empty w' ↦ held_no n test c.loop-number.set i (ap (λ (a : Bool). a && nat_lt 0 (touches n heads h i)) (cell ∙ w'.if-is_empty.false)) c.loop-number.invariant
      ])
    ]
