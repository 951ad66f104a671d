use Rattle.pass_alive.proofs.Common.{◌+◌, List, sym, ◌∙◌, subst, Empty, cell_at, side_of, Place, IsOn, number_of, same_cell_eq, eq_same_cell}
use Rattle.pass_alive.proofs.Members.{beside_those, beside_item}
use Rattle.pass_alive.proofs.Gathered.{SidesSoFar, sides_kept, sides_more, sides_all}
use Rattle.pass_alive.proofs.Tests.{empty_as}
use Rattle.pass_alive.proofs.eyes.add_sides.Goals as goal
use Rattle.pass_alive.proofs.eyes.add_sides.Goals.{then-is_empty, else-is_empty}

pub loop-neighbour-preserved : goal.loop-neighbour-preserved
loop-neighbour-preserved c =
    let cells = c.args.board.now in
    let n = side_of cells in
    let old = c.args.sides.now in
    let now = c.loop-neighbour.sides in
    let x = c.neighbour-item.result in
    let items = c.as_slice-neighbour-items.result.now in
    let i = c.loop-neighbour.neighbour-index in
    let low = c.loop-neighbour-test.true in
    let is = c.neighbour-item.is in
    let on : IsOn n x = (beside_item n c.size.result c.size.ensures c.args.point c.neighbours-neighbours.result.items items c.as_slice-neighbour-items.ensures.value c.neighbours-neighbours.ensures.exact c.neighbours-neighbours.ensures.on_board i x low is).0 in
    let cell = empty_as cells (number_of n x) c.cell.result c.is_empty.result c.is_empty.ensures c.cell.ensures in
    elim c.if-is_empty.branch [
      | then-is_empty w ↦
          subst (λ (s : List Place). SidesSoFar n cells old items (i + 1) s) (sym (w.sides-is ∙ w.insert.ensures))
          (sides_more n cells old items i x low is now c.loop-neighbour.invariant (on, same_cell_eq (cell_at cells (number_of n x)) Empty (cell ∙ w.if-is_empty.true)))
      | else-is_empty w ↦
          subst (λ (s : List Place). SidesSoFar n cells old items (i + 1) s) (sym w.sides-is)
          (sides_kept n cells old items i x low is now c.loop-neighbour.invariant
          (λ free. cc (cell, w.if-is_empty.false, eq_same_cell (cell_at cells (number_of n x)) Empty free)))
    ]

pub returns : goal.returns
returns c =
    let cells = c.args.board.now in
    let n = side_of cells in
    let those = beside_those n c.size.result c.size.ensures c.args.point c.neighbours-neighbours.result.items c.as_slice-neighbour-items.result.now c.as_slice-neighbour-items.ensures.value c.neighbours-neighbours.ensures.exact in
    sides_all n cells c.args.sides.now c.as_slice-neighbour-items.result.now c.loop-neighbour.neighbour-index (number_of n c.args.point) c.loop-neighbour-test.false those c.loop-neighbour.sides c.loop-neighbour.invariant
