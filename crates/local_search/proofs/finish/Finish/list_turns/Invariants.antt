use Rattle.std.proofs.Common.{◌≡◌}
use Rattle.local_search.proofs.finish.Finish.list_turns.Given as goal

abbrev pub invariant-loop-place : goal.invariant-loop-place
invariant-loop-place g l =
    (goal.iterator-loop-place g).can_next l.place-iterator
    × (goal.iterator-loop-place g).is_finite l.place-iterator
    × (l.self.steps ≡ l.fn.self.steps)
