use Rattle.go_chains.proofs.Common.{map, take, side_of, number_of}
use Rattle.go_chains.proofs.Filling.{FilledSoFar}
use Rattle.go_chains.proofs.stones.fill.Given as goal

abbrev pub invariant-loop-neighbour : goal.invariant-loop-neighbour
invariant-loop-neighbour l = FilledSoFar (side_of l.fn.colouring) l.colouring l.fn.heads l.heads l.next l.counts l.colour l.number (map (number_of (side_of l.fn.colouring)) (take l.neighbour-index l.neighbour-items))
