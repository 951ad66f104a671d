use Rattle.std.proofs.Common.{◌≡◌, ℕ, ◌+◌, Bool, List, sym, ◌∙◌, ap, subst}
use Rattle.go_points.specs.declared.Cell.{Cell}
use Rattle.go_points.specs.declared.Cell.TheVariants.{Stone}
use Rattle.go_points.specs.Grid.{cell_at, same_cell, side_of}
use Rattle.go_points.specs.Place.{Place, IsOn, place_of}
use Rattle.go_points.specs.Points.{with_place}
use Rattle.go_chains.proofs.Gathering.{HeldSoFar, held_yes, held_no}
use Rattle.proved_groups.proofs.dead.stones_of.Goals as goal
use Rattle.proved_groups.proofs.dead.stones_of.Goals.{then-is_stone_of, else-is_stone_of}

pub loop-number-preserved : goal.loop-number-preserved
loop-number-preserved c =
    let cells = c.args.colouring.now in let n = side_of cells in let i = c.loop-number.number in
    let same = c.size-size.ensures.value in
    let test : ℕ → Bool = λ p. same_cell (cell_at cells p) (Stone c.args.colour) in
    let at : test i ≡ c.is_stone_of.result = sym (c.is_stone_of.ensures ∙ ap (λ (a : Cell). same_cell a (Stone c.args.colour)) c.cell.ensures) in
    elim c.if-is_stone_of.branch [
      | then-is_stone_of w ↦
          let place : w.point_at.result ≡ place_of n i = w.point_at.ensures.place ∙ ap (λ (m : ℕ). place_of m i) same in
          let on_board : IsOn n (place_of n i) = subst (IsOn n) place (subst (λ (m : ℕ). IsOn m w.point_at.result) same w.point_at.ensures.on_board) in
          subst (λ (l : List Place). HeldSoFar n test l (i + 1)) (sym (w.stones-is ∙ w.insert.ensures ∙ ap (with_place c.loop-number.stones) place))
          (held_yes n test c.loop-number.stones i on_board (at ∙ w.if-is_stone_of.true) c.loop-number.invariant)
      | else-is_stone_of w ↦ subst (λ (l : List Place). HeldSoFar n test l (i + 1)) (sym w.stones-is) (held_no n test c.loop-number.stones i (at ∙ w.if-is_stone_of.false) c.loop-number.invariant)
    ]
