use Rattle.safe_groups.proofs.Common.{◌≡◌, ◌<◌, ℕ, Empty, cell_at, area_of, states_of, IsMoveAnswered}
use Rattle.safe_groups.proofs.bodies.judge_moves.Given as goal

abbrev pub invariant-loop-number : goal.invariant-loop-number
invariant-loop-number g l = (x : ℕ) → x < l.number → cell_at l.state x ≡ Empty → IsMoveAnswered (area_of l.ground) (states_of l.states) l.state x
