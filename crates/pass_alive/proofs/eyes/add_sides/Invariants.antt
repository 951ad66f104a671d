use Rattle.go_points.specs.Grid.{side_of}
use Rattle.pass_alive.proofs.Gathered.{SidesSoFar}
use Rattle.pass_alive.proofs.eyes.add_sides.Given as goal

abbrev pub invariant-loop-neighbour : goal.invariant-loop-neighbour
invariant-loop-neighbour l = SidesSoFar (side_of l.board) l.board l.initial.sides l.neighbour-items l.neighbour-index l.sides
