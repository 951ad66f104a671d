use Rattle.go_points.specs.Grid.{side_of}
use Rattle.pass_alive.proofs.Gathered.{StonesSoFar}
use Rattle.pass_alive.proofs.around.add_stones_around.Given as goal

abbrev pub invariant-loop-neighbour : goal.invariant-loop-neighbour
invariant-loop-neighbour l = StonesSoFar (side_of l.board) l.stones l.late l.initial.set l.neighbour-items l.neighbour-index l.set
