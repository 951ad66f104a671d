use Rattle.go_chains.proofs.Common.{◌≡◌, ◌-◌, ◌*◌, ◌<◌, ◌⊎◌, ℕ, Empty, cell_at, side_of, LivesAround}
use Rattle.go_chains.proofs.change.live_where_new.Given as goal

abbrev pub invariant-changed : goal.invariant-changed
invariant-changed l = (p : ℕ) → p < l.number → (cell_at l.colouring p ≡ cell_at l.before p) ⊎ (cell_at l.colouring p ≡ Empty) ⊎ LivesAround (side_of l.colouring) l.colouring p

abbrev pub decreases-changed : goal.decreases-changed
decreases-changed l = side_of l.colouring * side_of l.colouring - l.number
