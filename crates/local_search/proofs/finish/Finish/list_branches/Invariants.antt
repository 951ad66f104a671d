use Rattle.std.proofs.Common.{◌≡◌}
use Rattle.local_search.proofs.finish.Finish.list_branches.Given as goal

abbrev pub invariant-loop-place : goal.invariant-loop-place
invariant-loop-place g l = l.self.steps ≡ l.fn.self.steps
