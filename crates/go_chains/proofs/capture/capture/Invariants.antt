use Rattle.go_chains.proofs.Common.{◌≡◌, map, take, side_of, number_of}
use Rattle.go_chains.proofs.Leaving.{CapturedSoFar}
use Rattle.go_chains.proofs.capture.capture.Given as goal

abbrev pub invariant-loop-neighbour : goal.invariant-loop-neighbour
invariant-loop-neighbour l = record {
  side : side_of l.colouring ≡ side_of l.fn.colouring;
  so_far : CapturedSoFar (side_of l.fn.colouring) l.fn.colouring l.colouring l.fn.heads l.heads l.next l.counts l.colour l.removed (map (number_of (side_of l.fn.colouring)) (take l.neighbour-index l.neighbour-items));
}
