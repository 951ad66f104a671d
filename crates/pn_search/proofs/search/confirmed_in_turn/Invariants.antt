use Rattle.std.proofs.Common.{◌≡◌}
use Rattle.pn_search.proofs.search.confirmed_in_turn.Given as goal

abbrev pub invariant-loop-choice : goal.invariant-loop-choice
invariant-loop-choice l = l.rest ≡ l.fn.problem
