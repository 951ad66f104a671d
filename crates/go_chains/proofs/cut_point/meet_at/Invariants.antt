use Rattle.go_chains.proofs.Common.{◌≡◌, ℕ, map, take, slice_index, number_of, IsIn, Meet}
use Rattle.go_chains.proofs.cut_point.meet_at.Given as goal

abbrev pub invariant-loop-neighbour : goal.invariant-loop-neighbour
invariant-loop-neighbour l = (a : ℕ) → IsIn a (map (number_of l.size) (take l.neighbour-index l.neighbour-items)) → slice_index l.heads a ≡ l.head → Meet l.size l.heads l.head l.number a l.centre
