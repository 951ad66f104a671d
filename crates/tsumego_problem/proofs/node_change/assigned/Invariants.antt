use Rattle.tsumego_problem.proofs.Assigning.{FilledTo, left_at}
use Rattle.tsumego_problem.proofs.node_change.assigned.Given as goal

abbrev pub invariant-loop-number : goal.invariant-loop-number
invariant-loop-number l = FilledTo l.size (left_at l.size l.node l.colouring) l.after l.number
