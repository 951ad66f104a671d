use Rattle.tsumego_problem.proofs.Common.{◌≡◌, map, All, list_any, IsOn, number_of, holds_point, points_at, share_point}
use Rattle.tsumego_problem.proofs.node_fault.name_one_point.Given as goal

abbrev pub invariant-loop-point : goal.invariant-loop-point
invariant-loop-point l =
    (goal.iterator-loop-point).can_next l.point-iterator
    × (goal.iterator-loop-point).is_finite l.point-iterator
    × All (IsOn l.fn.size) l.point-iterator
    × (list_any (holds_point (points_at l.fn.size l.first l.node)) (map (number_of l.fn.size) l.point-iterator) ≡ share_point l.fn.size l.first l.second l.node)
