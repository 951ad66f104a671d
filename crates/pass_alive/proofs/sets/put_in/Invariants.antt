use Rattle.pass_alive.proofs.Taking.{PutSoFar}
use Rattle.pass_alive.proofs.sets.put_in.Given as goal

abbrev pub invariant-loop-point : goal.invariant-loop-point
invariant-loop-point l =
    (goal.iterator-loop-point).can_next l.point-iterator
    × (goal.iterator-loop-point).is_finite l.point-iterator
    × PutSoFar l.other l.initial.set l.set l.point-iterator
