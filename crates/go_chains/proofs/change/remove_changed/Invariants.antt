use Rattle.go_chains.proofs.Common.{◌≡◌, ◌-◌, ◌*◌, ◌<◌, ◌≤◌, ◌⊎◌, ℕ, Empty, cell_at, side_of, IsSettled}
use Rattle.go_chains.proofs.change.remove_changed.Given as goal

abbrev pub invariant-changed : goal.invariant-changed
invariant-changed l = record {
  side : side_of l.colouring ≡ side_of l.fn.colouring;
  settled : IsSettled (side_of l.fn.colouring) l.colouring l.heads l.next l.counts;
  rest : (p : ℕ) → p < l.number → p < side_of l.fn.colouring * side_of l.fn.colouring → (cell_at l.colouring p ≡ Empty) ⊎ (cell_at l.colouring p ≡ cell_at l.wanted p);
  few : l.changed ≤ l.number;
}

abbrev pub decreases-changed : goal.decreases-changed
decreases-changed l = side_of l.fn.colouring * side_of l.fn.colouring - l.number
