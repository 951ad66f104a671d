use Rattle.go_chains.proofs.Common.{◌≡◌, ◌<◌, ℕ, false, side_of, lacks_liberty}
use Rattle.go_chains.proofs.change.find_without_liberty.Given as goal

abbrev pub invariant-loop-number : goal.invariant-loop-number
invariant-loop-number l = (p : ℕ) → p < l.number → lacks_liberty (side_of l.fn.colouring) l.fn.colouring p ≡ false
