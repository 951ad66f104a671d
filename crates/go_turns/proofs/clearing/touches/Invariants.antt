use Rattle.go_turns.proofs.Common.{◌≡◌, false, map, take, list_any, number_of, is_marked}
use Rattle.go_turns.proofs.clearing.touches.Given as goal

-- no neighbour so far is marked
abbrev pub invariant-loop-neighbour : goal.invariant-loop-neighbour
invariant-loop-neighbour l = list_any (is_marked l.marks) (map (number_of l.size) (take l.neighbour-index l.neighbour-items)) ≡ false
