use Rattle.go_chains.proofs.Common.{◌≡◌, ℕ, false, map, take, side_of, lacks_liberty, number_of, IsIn}
use Rattle.go_chains.proofs.change.live_around.Given as goal

abbrev pub invariant-loop-neighbour : goal.invariant-loop-neighbour
invariant-loop-neighbour l = (q : ℕ) → IsIn q (map (number_of (side_of l.colouring)) (take l.neighbour-index l.neighbour-items)) → lacks_liberty (side_of l.colouring) l.colouring q ≡ false
