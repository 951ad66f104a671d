use Rattle.go_chains.proofs.Common.{◌≡◌, false, map, take, list_any, side_of, number_of, loses_last}
use Rattle.go_chains.proofs.liberties.takes_chain.Given as goal

-- none so far
abbrev pub invariant-loop-neighbour : goal.invariant-loop-neighbour
invariant-loop-neighbour l = list_any (loses_last (side_of l.colouring) l.colouring l.heads l.counts l.colour l.number) (map (number_of (side_of l.colouring)) (take l.neighbour-index l.neighbour-items)) ≡ false
