use Rattle.cert_check.proofs.Common.{◌≡◌, ◌<◌, ◌≤◌, ℕ, List, Some, false, slice_get, Cell, same_cells}
use Rattle.cert_check.proofs.listed.is_among.Given as goal

abbrev pub invariant-loop-index : goal.invariant-loop-index
invariant-loop-index l = (k : ℕ) (other : List Cell) → l.low ≤ k → k < l.index → slice_get l.list k ≡ Some other → same_cells l.colouring other ≡ false
