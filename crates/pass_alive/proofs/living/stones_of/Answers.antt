use Rattle.pass_alive.proofs.Common.{◌≡◌, ◌+◌, ℕ, Bool, List, sym, ◌∙◌, ap, subst, Cell, Stone, same_cell, cell_at, side_of, Place, IsOn, number_of, place_of, with_place, HeldSoFar}
use Rattle.go_chains.proofs.Gathering.{held_yes, held_no}
use Rattle.pass_alive.proofs.living.stones_of.Goals as goal
use Rattle.pass_alive.proofs.living.stones_of.Goals.{then-is_stone_of, else-is_stone_of}

pub loop-number-preserved : goal.loop-number-preserved
loop-number-preserved c =
    let cells = c.args.board.now in
    let n = side_of cells in
    let i = c.loop-number.number in
    let same = c.size-size.ensures in
    let test : ℕ → Bool = λ q. same_cell (cell_at cells q) (Stone c.args.colour) in
    let at : number_of n c.point_at-point.result ≡ i = ap (λ (m : ℕ). number_of m c.point_at-point.result) (sym same) ∙ c.point_at-point.ensures.number_back in
    let place : c.point_at-point.result ≡ place_of n i = c.point_at-point.ensures.place ∙ ap (λ (m : ℕ). place_of m i) same in
    let on_board : IsOn n (place_of n i) = subst (IsOn n) place (subst (λ (m : ℕ). IsOn m c.point_at-point.result) same c.point_at-point.ensures.on_board) in
    let cell : test i ≡ c.is_stone_of.result = sym (c.is_stone_of.ensures ∙ ap (λ (a : Cell). same_cell a (Stone c.args.colour)) (c.cell.ensures ∙ ap (cell_at cells) at)) in
    elim c.if-is_stone_of.branch [
      | then-is_stone_of w ↦
          subst (λ (s : List Place). HeldSoFar n test s (i + 1)) (sym (w.stones-is ∙ w.insert.ensures ∙ ap (with_place c.loop-number.stones) place))
          (held_yes n test c.loop-number.stones i on_board (cell ∙ w.if-is_stone_of.true) c.loop-number.invariant)
      | else-is_stone_of w ↦
          subst (λ (s : List Place). HeldSoFar n test s (i + 1)) (sym w.stones-is)
          (held_no n test c.loop-number.stones i (cell ∙ w.if-is_stone_of.false) c.loop-number.invariant)
    ]
