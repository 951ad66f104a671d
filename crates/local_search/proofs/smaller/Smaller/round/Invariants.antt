use Rattle.std.proofs.Common.{◌≤◌}
use Rattle.state_proofs.specs.Work.{work}
use Rattle.local_search.proofs.smaller.Smaller.round.Given as goal

abbrev pub invariant-rounds : goal.invariant-rounds
invariant-rounds g l = work l.finish.steps ≤ work l.fn.finish.steps

abbrev pub decreases-rounds : goal.decreases-rounds
decreases-rounds g l = work l.finish.steps
