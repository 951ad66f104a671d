use Rattle.go_points.specs.Grid.{side_of}
use Rattle.pass_alive.proofs.Gathered.{AroundGathered}
use Rattle.pass_alive.proofs.around.all_around.Given as goal

abbrev pub invariant-loop-point : goal.invariant-loop-point
invariant-loop-point l =
    (goal.iterator-loop-point).can_next l.point-iterator
    × (goal.iterator-loop-point).is_finite l.point-iterator
    × AroundGathered (side_of l.board) l.points l.point-iterator l.found
