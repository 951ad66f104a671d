use Rattle.safe_groups.proofs.Common.{◌≡◌, ◌*◌, ℕ, IsTrue, length, cell_at, side_of, theirs, holds_point}
use Rattle.dead_groups.specs.Ground.{kill_area}
use Rattle.dead_groups.proofs.kill.targets_in.Given as goal

abbrev pub invariant-loop-number : goal.invariant-loop-number
invariant-loop-number l = (side_of l.targets ≡ l.size) × (length l.targets ≡ l.size * l.size)
    × ((p : ℕ) → cell_at l.targets p ≡ theirs (kill_area l.ground) → IsTrue (holds_point l.problem.game.targets p))
