use Rattle.pass_alive.proofs.Common.{◌≡◌, ℕ, IsTrue, refl, sym, ◌∙◌, ap, Empty, cell_at, side_of, number_of, holds_place, same_cell_eq, eq_same_cell, these}
use Rattle.go_turns.proofs.Openings.{place_back}
use Rattle.pass_alive.proofs.Members.{beside_more, beside_all, beside_those, beside_item}
use Rattle.pass_alive.proofs.Tests.{empty_as}
use Rattle.pass_alive.proofs.sides.is_beside_free.Goals as goal
use Rattle.pass_alive.proofs.sides.is_beside_free.Goals.{else-is_empty-via-then-is_empty+else-not-has, else-is_empty-via-else-is_empty}

pub returns-then-not-has : goal.returns-then-not-has
returns-then-not-has c =
    let cells = c.args.board.now in
    let n = side_of cells in
    let x = c.neighbour-item.result in
    let beside = beside_item n c.size.result c.size.ensures c.args.point c.neighbours-neighbours.result.items c.as_slice-neighbour-items.result.now c.as_slice-neighbour-items.ensures.value c.neighbours-neighbours.ensures.exact c.neighbours-neighbours.ensures.on_board c.loop-neighbour.neighbour-index x c.loop-neighbour-test.true c.neighbour-item.is in
    let free = same_cell_eq (cell_at cells (number_of n x)) Empty (empty_as cells (number_of n x) c.cell.result c.is_empty.result c.is_empty.ensures c.cell.ensures ∙ c.if-is_empty.true) in
    (λ _. (number_of n x, beside.1, free, ap (holds_place c.args.set.now) (place_back n x beside.0) ∙ sym c.has.ensures ∙ c.if-not-has.true), λ _. refl)

pub loop-neighbour-preserved : goal.loop-neighbour-preserved
loop-neighbour-preserved c =
    let cells = c.args.board.now in
    let n = side_of cells in
    let set = c.args.set.now in
    let x = c.neighbour-item.result in
    let items = c.as_slice-neighbour-items.result.now in
    let beside = beside_item n c.size.result c.size.ensures c.args.point c.neighbours-neighbours.result.items items c.as_slice-neighbour-items.ensures.value c.neighbours-neighbours.ensures.exact c.neighbours-neighbours.ensures.on_board c.loop-neighbour.neighbour-index x c.loop-neighbour-test.true c.neighbour-item.is in
    beside_more n (λ (q : ℕ). cell_at cells q ≡ Empty → IsTrue (these n set q)) items c.loop-neighbour.neighbour-index x c.loop-neighbour-test.true c.neighbour-item.is
    (λ free. elim c.else-is_empty.branch [
      | else-is_empty-via-then-is_empty+else-not-has w ↦ ap (holds_place set) (place_back n x beside.0) ∙ sym w.has.ensures ∙ w.if-not-has.false
      | else-is_empty-via-else-is_empty w ↦ absurd (cc (empty_as cells (number_of n x) c.cell.result c.is_empty.result c.is_empty.ensures c.cell.ensures, w.if-is_empty.false, eq_same_cell (cell_at cells (number_of n x)) Empty free))
    ])
    c.loop-neighbour.invariant

pub returns : goal.returns
returns c =
    let cells = c.args.board.now in
    let n = side_of cells in
    let set = c.args.set.now in
    let items = c.as_slice-neighbour-items.result.now in
    let those = beside_those n c.size.result c.size.ensures c.args.point c.neighbours-neighbours.result.items items c.as_slice-neighbour-items.ensures.value c.neighbours-neighbours.ensures.exact in
    (λ h. absurd (cc h), λ side. absurd (cc (beside_all n (λ (q : ℕ). cell_at cells q ≡ Empty → IsTrue (these n set q)) items c.loop-neighbour.neighbour-index (number_of n c.args.point) c.loop-neighbour-test.false those c.loop-neighbour.invariant side.0 side.1 side.2, side.3)))
