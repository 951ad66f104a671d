use Rattle.go_turns.proofs.Common.{◌≡◌, ℕ, ◌<◌, ◌-◌, length, Empty, side_of, same_cell, cell_at, is_marked, mark_count, IsSound, HasSeeds}
use Rattle.go_turns.proofs.clearing.mark_free.Given as goal

-- the empty points so far are marked, and no others
abbrev pub invariant-loop-number : goal.invariant-loop-number
invariant-loop-number l = (p : ℕ) → p < l.number → is_marked l.marks p ≡ same_cell (cell_at l.colouring p) Empty

abbrev pub invariant-sweeps : goal.invariant-sweeps
invariant-sweeps l = record {
  sound : IsSound (side_of l.colouring) l.colouring l.colour l.marks;
  seeds : HasSeeds (side_of l.colouring) l.colouring l.marks;
}

-- the marks still to be made
abbrev pub decreases-sweeps : goal.decreases-sweeps
decreases-sweeps l = length l.marks - mark_count l.marks
