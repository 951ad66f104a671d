use Rattle.go_points.specs.Grid.{side_of}
use Rattle.pass_alive.proofs.Doubts.{DoubtsSoFar}
use Rattle.pass_alive.proofs.lasting.doubtful_stones.Given as goal

abbrev pub invariant-loop-stone : goal.invariant-loop-stone
invariant-loop-stone l =
    (goal.iterator-loop-stone).can_next l.stone-iterator
    × (goal.iterator-loop-stone).is_finite l.stone-iterator
    × DoubtsSoFar (side_of l.board) l.board l.region l.stones l.doubtful l.stone-iterator
