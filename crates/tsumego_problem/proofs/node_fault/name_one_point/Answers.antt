use Rattle.tsumego_problem.proofs.Common.{rules, points_at, share_point}
use Rattle.tsumego_problem.proofs.Sharing.{shared_here, not_shared_here, on_rest}
use Rattle.tsumego_problem.proofs.node_fault.name_one_point.Goals as goal

pub returns-then-has : goal.returns-then-has
returns-then-has c =
    let n = c.args.size in let numbers = points_at n c.args.first.now c.args.node.now in
    shared_here n c.points_at-held.result numbers c.points_at-held.ensures.value c.points_at-held.ensures.on_board c.loop-point.point-iterator c.next.new.self c.in-Some.point c.in-Some.ensures.steps c.loop-point.invariant.2 (share_point n c.args.first.now c.args.second.now c.args.node.now) c.loop-point.invariant.3 c.has.result c.has.ensures c.if-has.true

pub loop-point-preserved : goal.loop-point-preserved
loop-point-preserved c =
    let n = c.args.size in let numbers = points_at n c.args.first.now c.args.node.now in let whole = share_point n c.args.first.now c.args.second.now c.args.node.now in (
      search rules,
      search rules,
      on_rest n c.points_at-held.result numbers c.points_at-held.ensures.value c.points_at-held.ensures.on_board c.loop-point.point-iterator c.next.new.self c.in-Some.point c.in-Some.ensures.steps c.loop-point.invariant.2 whole c.loop-point.invariant.3,
      not_shared_here n c.points_at-held.result numbers c.points_at-held.ensures.value c.points_at-held.ensures.on_board c.loop-point.point-iterator c.next.new.self c.in-Some.point c.in-Some.ensures.steps c.loop-point.invariant.2 whole c.loop-point.invariant.3 c.has.result c.has.ensures c.if-has.false,
    )
