use Rattle.std.proofs.Common.{◌≤◌}
use Rattle.state_proofs.specs.Work.{work}
use Rattle.local_search.proofs.search.Search.search.Given as goal

abbrev pub invariant-rounds : goal.invariant-rounds
invariant-rounds g l = work l.steps ≤ work l.fn.steps

abbrev pub decreases-rounds : goal.decreases-rounds
decreases-rounds g l = work l.steps
