use Rattle.safe_groups.proofs.Common.{◌<◌, ℕ, get_or, List, Cell, Fits}
use Rattle.dead_groups.specs.Ground.{kill_area}
use Rattle.dead_groups.proofs.entry_list.is_new.Given as goal

abbrev pub invariant-loop-past : goal.invariant-loop-past
invariant-loop-past l = (k : ℕ) (d : List Cell) → k < l.past-index → Fits (kill_area l.ground) (get_or l.problem.history k d) l.state → ⊥
