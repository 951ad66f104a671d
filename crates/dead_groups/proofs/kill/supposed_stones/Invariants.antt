use Rattle.safe_groups.proofs.Common.{◌≡◌, ◌*◌, ◌<◌, ◌⊎◌, ℕ, IsTrue, length, cell_at, side_of, own, area_of}
use Rattle.dead_groups.specs.Ground.{kill_area}
use Rattle.dead_groups.proofs.kill.supposed_stones.Given as goal

abbrev pub invariant-loop-number : goal.invariant-loop-number
invariant-loop-number l = (side_of l.supposed ≡ l.size) × (length l.supposed ≡ l.size * l.size)
    × ((p : ℕ) → p < l.number → IsTrue ((area_of l.ground).kept p) → (cell_at l.stones p ≡ own (kill_area l.ground)) ⊎ (cell_at l.supposed p ≡ own (kill_area l.ground)))
