use Rattle.safe_groups.proofs.Common.{◌≡◌, ◌<◌, ℕ, cell_at}
use Rattle.dead_groups.proofs.states.all_there.Given as goal

abbrev pub invariant-loop-number : goal.invariant-loop-number
invariant-loop-number l = (p : ℕ) → p < l.number → cell_at l.one p ≡ l.cell → cell_at l.other p ≡ l.cell
