use Rattle.go_points.specs.Grid.{side_of}
use Rattle.go_turns.proofs.Marks.{SpreadSoFar}
use Rattle.go_turns.proofs.clearing.spread.Given as goal

abbrev pub invariant-loop-number : goal.invariant-loop-number
invariant-loop-number l = SpreadSoFar (side_of l.colouring) l.colouring l.colour l.initial.marks l.marks l.has_spread l.number
