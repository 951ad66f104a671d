use Rattle.go_points.specs.Grid.{side_of}
use Rattle.pass_alive.proofs.Gathered.{StonesGathered}
use Rattle.pass_alive.proofs.around.add_stones_near.Given as goal

abbrev pub invariant-loop-point : goal.invariant-loop-point
invariant-loop-point l =
    (goal.iterator-loop-point).can_next l.point-iterator
    × (goal.iterator-loop-point).is_finite l.point-iterator
    × StonesGathered (side_of l.board) l.stones l.late l.points l.initial.set l.point-iterator l.set
