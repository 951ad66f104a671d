use Rattle.go_chains.proofs.Common.{◌≡◌, ℕ, cond, map, take, Empty, same_cell, cell_at, side_of, number_of, total}
use Rattle.go_chains.proofs.stones.empties_at.Given as goal

abbrev pub invariant-loop-neighbour : goal.invariant-loop-neighbour
invariant-loop-neighbour l = l.found ≡ total (λ e. cond {A = ℕ} (same_cell (cell_at l.fn.colouring e) Empty) 1 0) (map (number_of (side_of l.fn.colouring)) (take l.neighbour-index l.neighbour-items))
