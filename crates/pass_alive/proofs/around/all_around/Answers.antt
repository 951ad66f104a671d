use Rattle.pass_alive.proofs.Common.{rules, side_of}
use Rattle.pass_alive.proofs.Gathered.{all_item, all_more}
use Rattle.pass_alive.proofs.around.all_around.Goals as goal

pub add_around-requires : goal.add_around-requires
add_around-requires c =
    let n = side_of c.args.board.now in
    c.requires c.in-Some.point
    (all_item n c.args.points.now c.loop-point.point-iterator c.next.new.self c.in-Some.point c.in-Some.ensures.steps c.loop-point.found c.loop-point.invariant.2)

pub loop-point-preserved : goal.loop-point-preserved
loop-point-preserved c = (
  search rules,
  search rules,
  all_more (side_of c.args.board.now) c.args.points.now c.loop-point.point-iterator c.next.new.self c.in-Some.point c.in-Some.ensures.steps c.loop-point.found c.add_around.new.set c.add_around.ensures c.loop-point.invariant.2,
)
