use Rattle.pass_alive.proofs.Common.{rules, ◌≡◌, ◌≢◌, ℕ, false, same_cell, cell_at, side_of, number_of, eq_same_cell}
use Rattle.pass_alive.proofs.Members.{beside_more, beside_all, beside_those}
use Rattle.pass_alive.proofs.chains.is_alone.Goals as goal

pub loop-neighbour-preserved : goal.loop-neighbour-preserved
loop-neighbour-preserved c =
    let cells = c.args.board.now in
    let n = side_of cells in
    let own = cell_at cells (number_of n c.args.point) in
    let x = c.neighbour-item.result in
    let differ : same_cell (cell_at cells (number_of n x)) own ≡ false = search rules in
    beside_more n (λ (q : ℕ). cell_at cells q ≢ own) c.as_slice-neighbour-items.result.now c.loop-neighbour.neighbour-index x c.loop-neighbour-test.true c.neighbour-item.is
    (λ same. cc (differ, eq_same_cell (cell_at cells (number_of n x)) own same))
    c.loop-neighbour.invariant

pub returns : goal.returns
returns c h =
    let cells = c.args.board.now in
    let n = side_of cells in
    let items = c.as_slice-neighbour-items.result.now in
    let those = beside_those n c.size.result c.size.ensures c.args.point c.neighbours-neighbours.result.items items c.as_slice-neighbour-items.ensures.value c.neighbours-neighbours.ensures.exact in
    beside_all n (λ (q : ℕ). cell_at cells q ≢ cell_at cells (number_of n c.args.point)) items c.loop-neighbour.neighbour-index (number_of n c.args.point) c.loop-neighbour-test.false those c.loop-neighbour.invariant
