use Rattle.tsumego_problem.proofs.Common.{map, All, IsOn, number_of, point_values}
use Rattle.tsumego_problem.proofs.Recording.{ValuesLeft}
use Rattle.tsumego_problem.proofs.canonical.point_values.Given as goal

abbrev pub invariant-loop-point : goal.invariant-loop-point
invariant-loop-point l =
    (goal.iterator-loop-point).can_next l.point-iterator
    × (goal.iterator-loop-point).is_finite l.point-iterator
    × All (IsOn l.fn.size) l.point-iterator
    × ValuesLeft l.fn.size l.values.items l.point-iterator (point_values l.fn.size (map (number_of l.fn.size) l.fn.set))
