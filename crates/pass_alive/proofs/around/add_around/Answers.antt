use Rattle.pass_alive.proofs.Common.{◌+◌, List, sym, subst, side_of, Place, IsOn, number_of}
use Rattle.pass_alive.proofs.Members.{beside_those, beside_on}
use Rattle.pass_alive.proofs.Gathered.{AroundSoFar, around_more, around_all}
use Rattle.pass_alive.proofs.around.add_around.Goals as goal

pub loop-neighbour-preserved : goal.loop-neighbour-preserved
loop-neighbour-preserved c =
    let n = side_of c.args.board.now in
    let old = c.args.set.now in
    let now = c.loop-neighbour.set in
    let x = c.neighbour-item.result in
    let items = c.as_slice-neighbour-items.result.now in
    let i = c.loop-neighbour.neighbour-index in
    let low = c.loop-neighbour-test.true in
    let is = c.neighbour-item.is in
    let on : IsOn n x = beside_on n c.size.result c.size.ensures c.args.point c.neighbours-neighbours.result.items items c.as_slice-neighbour-items.ensures.value c.neighbours-neighbours.ensures.on_board i x low is in
    subst (λ (s : List Place). AroundSoFar n old items (i + 1) s) (sym c.insert.ensures) (around_more n old items i x low is on now c.loop-neighbour.invariant)

pub returns : goal.returns
returns c =
    let n = side_of c.args.board.now in
    let items = c.as_slice-neighbour-items.result.now in
    let those = beside_those n c.size.result c.size.ensures c.args.point c.neighbours-neighbours.result.items items c.as_slice-neighbour-items.ensures.value c.neighbours-neighbours.ensures.exact in
    around_all n c.args.set.now items c.loop-neighbour.neighbour-index (number_of n c.args.point) c.loop-neighbour-test.false those c.loop-neighbour.set c.loop-neighbour.invariant
