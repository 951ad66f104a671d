use Rattle.pass_alive.proofs.Common.{side_of, number_of, these, IsPoint, IsBesidePoint, IsMetOrWall}
use Rattle.pass_alive.proofs.Members.{beside_first, beside_more, beside_all, beside_those, beside_item}
use Rattle.pass_alive.proofs.Spreading.{met_none, met_then, met_more, beside_point}
use Rattle.pass_alive.proofs.spread.meet_around.Goals as goal

pub loop-neighbour-init : goal.loop-neighbour-init
loop-neighbour-init c =
    let cells = c.args.board.now in
    let n = side_of cells in
    let k = c.args.colour in (
      met_none (IsBesidePoint n k cells (number_of n c.args.point)) c.args.area.now c.args.left.now,
      beside_first n (IsMetOrWall n k cells (these n c.args.stones.now) c.args.area.now) c.as_slice-neighbour-items.result.now,
    )

pub returns-then-not-meet-clause-met : goal.returns-then-not-meet-clause-met
returns-then-not-meet-clause-met c =
    let cells = c.args.board.now in
    let n = side_of cells in
    let k = c.args.colour in
    let p = number_of n c.args.point in
    let x = c.neighbour-item.result in
    let beside = beside_item n c.size.result c.size.ensures c.args.point c.neighbours-neighbours.result.items c.as_slice-neighbour-items.result.now c.as_slice-neighbour-items.ensures.value c.neighbours-neighbours.ensures.exact c.neighbours-neighbours.ensures.on_board c.loop-neighbour.neighbour-index x c.loop-neighbour-test.true c.neighbour-item.is in
    met_then (IsPoint n k cells x) (IsBesidePoint n k cells p) c.args.area.now c.args.left.now c.loop-neighbour.area c.loop-neighbour.left c.meet.new.area c.meet.new.left
    (beside_point n k cells p x beside.0 beside.1) c.loop-neighbour.invariant.0 c.meet.ensures.met

pub returns-then-not-meet-clause-gap : goal.returns-then-not-meet-clause-gap
returns-then-not-meet-clause-gap c open_ =
    let n = side_of c.args.board.now in
    let x = c.neighbour-item.result in
    let beside = beside_item n c.size.result c.size.ensures c.args.point c.neighbours-neighbours.result.items c.as_slice-neighbour-items.result.now c.as_slice-neighbour-items.ensures.value c.neighbours-neighbours.ensures.exact c.neighbours-neighbours.ensures.on_board c.loop-neighbour.neighbour-index x c.loop-neighbour-test.true c.neighbour-item.is in
    (number_of n x, beside.1, c.meet.ensures.gap c.if-not-meet.true)

pub loop-neighbour-preserved : goal.loop-neighbour-preserved
loop-neighbour-preserved c =
    let cells = c.args.board.now in
    let n = side_of cells in
    let k = c.args.colour in
    let p = number_of n c.args.point in
    let x = c.neighbour-item.result in
    let items = c.as_slice-neighbour-items.result.now in
    let stones = these n c.args.stones.now in
    let beside = beside_item n c.size.result c.size.ensures c.args.point c.neighbours-neighbours.result.items items c.as_slice-neighbour-items.ensures.value c.neighbours-neighbours.ensures.exact c.neighbours-neighbours.ensures.on_board c.loop-neighbour.neighbour-index x c.loop-neighbour-test.true c.neighbour-item.is in (
      met_then (IsPoint n k cells x) (IsBesidePoint n k cells p) c.args.area.now c.args.left.now c.loop-neighbour.area c.loop-neighbour.left c.meet.new.area c.meet.new.left
          (beside_point n k cells p x beside.0 beside.1) c.loop-neighbour.invariant.0 c.meet.ensures.met,
      beside_more n (IsMetOrWall n k cells stones c.meet.new.area) items c.loop-neighbour.neighbour-index x c.loop-neighbour-test.true c.neighbour-item.is (c.meet.ensures.closed c.if-not-meet.false)
          (λ q m. met_more n k cells stones c.loop-neighbour.area c.meet.new.area c.meet.ensures.met.kept q (c.loop-neighbour.invariant.1 q m)),
    )

pub returns-clause-met : goal.returns-clause-met
returns-clause-met c = c.loop-neighbour.invariant.0

pub returns-clause-closed : goal.returns-clause-closed
returns-clause-closed c held =
    let cells = c.args.board.now in
    let n = side_of cells in
    let items = c.as_slice-neighbour-items.result.now in
    let those = beside_those n c.size.result c.size.ensures c.args.point c.neighbours-neighbours.result.items items c.as_slice-neighbour-items.ensures.value c.neighbours-neighbours.ensures.exact in
    beside_all n (IsMetOrWall n c.args.colour cells (these n c.args.stones.now) c.loop-neighbour.area) items c.loop-neighbour.neighbour-index (number_of n c.args.point) c.loop-neighbour-test.false those c.loop-neighbour.invariant.1
