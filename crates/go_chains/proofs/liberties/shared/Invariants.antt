use Rattle.go_chains.proofs.Common.{◌≡◌, map, take, number_of, total}
use Rattle.go_chains.proofs.Counts.{is_head}
use Rattle.go_chains.proofs.liberties.shared.Given as goal

abbrev pub invariant-loop-neighbour : goal.invariant-loop-neighbour
invariant-loop-neighbour l = l.found ≡ total (is_head l.heads l.head) (map (number_of l.size) (take l.neighbour-index l.neighbour-items))
