use Rattle.go_turns.proofs.Common.{◌≡◌, ℕ, ◌<◌, false, side_of, lacks_liberty}
use Rattle.go_turns.proofs.clearing.first_unmarked.Given as goal

-- the stones so far reach empty
abbrev pub invariant-loop-number : goal.invariant-loop-number
invariant-loop-number l = (p : ℕ) → p < l.number → lacks_liberty (side_of l.colouring) l.colouring p ≡ false
