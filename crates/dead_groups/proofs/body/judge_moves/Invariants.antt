use Rattle.safe_groups.proofs.Common.{◌≡◌, ◌<◌, ℕ, Empty, cell_at}
use Rattle.dead_groups.specs.Ground.{kill_area, targets_of, IsMoveMet}
use Rattle.dead_groups.proofs.body.judge_moves.Given as goal

abbrev pub invariant-loop-number : goal.invariant-loop-number
invariant-loop-number g l = (x : ℕ) → x < l.number → cell_at l.state x ≡ Empty → IsMoveMet (kill_area l.ground) (targets_of l.ground l.targets) l.states l.state x
