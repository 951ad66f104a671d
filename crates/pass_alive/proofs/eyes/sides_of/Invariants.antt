use Rattle.go_points.specs.Grid.{side_of}
use Rattle.pass_alive.proofs.Gathered.{SidesGathered}
use Rattle.pass_alive.proofs.eyes.sides_of.Given as goal

abbrev pub invariant-loop-stone : goal.invariant-loop-stone
invariant-loop-stone l =
    (goal.iterator-loop-stone).can_next l.stone-iterator
    × (goal.iterator-loop-stone).is_finite l.stone-iterator
    × SidesGathered (side_of l.board) l.board l.chain l.stone-iterator l.sides
