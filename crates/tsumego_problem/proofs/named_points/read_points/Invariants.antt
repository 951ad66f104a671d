use Rattle.tsumego_problem.proofs.EachValue.{EachFrom}
use Rattle.tsumego_problem.proofs.named_points.read_points.Given as goal

abbrev pub invariant-loop-value : goal.invariant-loop-value
invariant-loop-value l = EachFrom l.size l.values l.value-index l.set
