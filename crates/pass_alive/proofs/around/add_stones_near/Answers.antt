use Rattle.pass_alive.proofs.Common.{rules, side_of}
use Rattle.pass_alive.proofs.Gathered.{near_item, near_more}
use Rattle.pass_alive.proofs.around.add_stones_near.Goals as goal

pub add_stones_around-requires : goal.add_stones_around-requires
add_stones_around-requires c =
    let n = side_of c.args.board.now in
    c.requires c.in-Some.point
    (near_item n c.args.stones.now c.args.late.now c.args.points.now c.args.set.now c.loop-point.point-iterator c.next.new.self c.in-Some.point c.in-Some.ensures.steps c.loop-point.set c.loop-point.invariant.2)

pub loop-point-preserved : goal.loop-point-preserved
loop-point-preserved c = (
  search rules,
  search rules,
  near_more (side_of c.args.board.now) c.args.stones.now c.args.late.now c.args.points.now c.args.set.now c.loop-point.point-iterator c.next.new.self c.in-Some.point c.in-Some.ensures.steps c.loop-point.set c.add_stones_around.new.set c.add_stones_around.ensures c.loop-point.invariant.2,
)
