use Rattle.safe_groups.proofs.Common.{◌≡◌, sym, ◌∙◌, subst, refl, true, Empty, cell_at, side_of, number_of, same_cell_eq, adjacent, IsNext}
use Rattle.safe_groups.proofs.Beside.{HasMore, more_one, beside_on, beside_adjacent}
use Rattle.safe_groups.proofs.liberties.meets_empty.Goals as goal
use Rattle.safe_groups.proofs.liberties.meets_empty.Goals.{then-are_same+then-not-has, else-are_same}

pub returns-then-is_empty-clause-empty : goal.returns-then-is_empty-clause-empty
returns-then-is_empty-clause-empty c = λ yes.
    let n = side_of c.args.state.now in let x = c.neighbour-item.result in
    let beside = beside_adjacent n c.size.result (number_of c.size.result c.args.point) c.size.ensures.value c.args.point refl c.neighbours-neighbours.result.items c.as_slice-neighbour-items.result.now c.as_slice-neighbour-items.ensures.value c.neighbours-neighbours.ensures.exact c.neighbours-neighbours.ensures.on_board c.loop-neighbour.neighbour-index x c.loop-neighbour-test.true c.neighbour-item.is in
    (number_of n x, subst (λ m. adjacent n (number_of m c.args.point) (number_of n x) ≡ true) c.size.ensures.value beside, sym c.get-beside.ensures.value ∙ same_cell_eq _ Empty (sym c.is_empty.ensures ∙ c.if-is_empty.true))

pub loop-neighbour-preserved : goal.loop-neighbour-preserved
loop-neighbour-preserved c =
    let cells = c.args.state.now in let n = side_of cells in let x = c.neighbour-item.result in let p = number_of n c.args.point in
    let on = beside_on n c.size.result (number_of c.size.result c.args.point) c.size.ensures.value c.args.point refl c.neighbours-neighbours.result.items c.as_slice-neighbour-items.result.now c.as_slice-neighbour-items.ensures.value c.neighbours-neighbours.ensures.exact c.neighbours-neighbours.ensures.on_board c.loop-neighbour.neighbour-index x c.loop-neighbour-test.true c.neighbour-item.is in
    let beside = beside_adjacent n c.size.result (number_of c.size.result c.args.point) c.size.ensures.value c.args.point refl c.neighbours-neighbours.result.items c.as_slice-neighbour-items.result.now c.as_slice-neighbour-items.ensures.value c.neighbours-neighbours.ensures.exact c.neighbours-neighbours.ensures.on_board c.loop-neighbour.neighbour-index x c.loop-neighbour-test.true c.neighbour-item.is in
    elim c.if-are_same.branch [
      | then-are_same+then-not-has w ↦
          let same : cell_at cells (number_of n x) ≡ cell_at cells p = sym c.get-beside.ensures.value ∙ same_cell_eq _ _ (sym c.are_same.ensures ∙ w.if-are_same.true) ∙ c.get-cell.ensures.value in
          let next : IsNext n cells p x = (on, subst (λ m. adjacent n (number_of m c.args.point) (number_of n x) ≡ true) c.size.ensures.value beside, same) in
          subst (HasMore n cells p c.args.waiting.now) (sym (w.waiting-is ∙ w.insert-then-not-has.ensures)) (more_one n cells p c.args.waiting.now c.loop-neighbour.waiting x next c.loop-neighbour.invariant)
      | else-are_same w ↦ subst (HasMore n cells p c.args.waiting.now) (sym w.waiting-is) c.loop-neighbour.invariant
    ]
