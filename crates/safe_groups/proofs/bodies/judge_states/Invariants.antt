use Rattle.safe_groups.proofs.Common.{◌<◌, ℕ, get_or, List, Cell, IsJudged}
use Rattle.safe_groups.proofs.bodies.judge_states.Given as goal

abbrev pub invariant-loop-place : goal.invariant-loop-place
invariant-loop-place g l = (k : ℕ) (d : List Cell) → k < l.place → IsJudged l.ground l.states (get_or l.states k d)
