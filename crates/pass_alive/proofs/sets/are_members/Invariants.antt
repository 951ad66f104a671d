use Rattle.pass_alive.proofs.Common.{◌≡◌, list_all, holds_place}
use Rattle.pass_alive.proofs.sets.are_members.Given as goal

abbrev pub invariant-loop-point : goal.invariant-loop-point
invariant-loop-point l =
    (goal.iterator-loop-point).can_next l.point-iterator
    × (goal.iterator-loop-point).is_finite l.point-iterator
    × (list_all (holds_place l.set) l.point-iterator ≡ list_all (holds_place l.set) l.points)
