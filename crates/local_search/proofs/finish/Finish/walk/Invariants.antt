use Rattle.std.proofs.Common.{◌≤◌}
use Rattle.state_proofs.specs.Work.{work}
use Rattle.local_search.proofs.finish.Finish.walk.Given as goal

abbrev pub invariant-rounds : goal.invariant-rounds
invariant-rounds g l = work l.self.steps ≤ work l.fn.self.steps

abbrev pub decreases-rounds : goal.decreases-rounds
decreases-rounds g l = work l.self.steps
