use Rattle.tsumego_problem.proofs.Common.{rules, map, sym, subst, IsOn, number_of, left_on, point_values}
use Rattle.tsumego_problem.proofs.Recording.{ValuesLeft, value_more}
use Rattle.tsumego_problem.proofs.canonical.point_values.Goals as goal

pub loop-point-preserved : goal.loop-point-preserved
loop-point-preserved c =
    let n = c.args.size in let whole = point_values n (map (number_of n) c.args.set.now) in (
      search rules,
      search rules,
      left_on (IsOn n) c.loop-point.point-iterator c.next.new.self c.in-Some.point c.in-Some.ensures.steps c.loop-point.invariant.2,
      subst (λ vs. ValuesLeft n vs c.next.new.self whole) (sym c.in_ok-push.ensures.items)
          (value_more n c.loop-point.values.items whole c.loop-point.point-iterator c.next.new.self c.in-Some.point c.in_ok-point_value.field-0 c.in-Some.ensures.steps c.loop-point.invariant.2 c.in_ok-point_value.ensures c.loop-point.invariant.3),
    )
