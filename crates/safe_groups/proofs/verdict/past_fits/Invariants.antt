use Rattle.safe_groups.proofs.Common.{◌<◌, ◌⊎◌, ℕ, get_or, List, Cell, LacksOne, BarsNothing}
use Rattle.safe_groups.proofs.verdict.past_fits.Given as goal

abbrev pub invariant-loop-past : goal.invariant-loop-past
invariant-loop-past l = (k : ℕ) (d : List Cell) → k < l.past-index → LacksOne l.keeper l.stones (get_or l.problem.history k d) ⊎ BarsNothing l.grounds l.begins (get_or l.problem.history k d)
