use Rattle.pass_alive.proofs.Common.{rules, List, sym, subst, Place}
use Rattle.pass_alive.proofs.Taking.{PutSoFar, put_more}
use Rattle.pass_alive.proofs.sets.put_in.Goals as goal

pub loop-point-preserved : goal.loop-point-preserved
loop-point-preserved c =
    let other = c.args.other.now in
    let old = c.args.set.now in
    let rest = c.next.new.self in (
      search rules,
      search rules,
      subst (λ (s : List Place). PutSoFar other old s rest) (sym c.insert.ensures) (put_more other old c.loop-point.set c.loop-point.point-iterator rest c.in-Some.point c.in-Some.ensures.steps c.loop-point.invariant.2),
    )
