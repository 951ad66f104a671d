use Rattle.std.proofs.Common.{◌≡◌}
use Rattle.local_search.proofs.smaller.Smaller.list_living.Given as goal

abbrev pub invariant-loop-index : goal.invariant-loop-index
invariant-loop-index g l = l.finish.steps ≡ l.fn.finish.steps
