use Rattle.tsumego_problem.proofs.Common.{number_of, inside}
use Rattle.tsumego_problem.proofs.Rectangles.{GainedBelow}
use Rattle.tsumego_problem.proofs.named_points.add_inside.Given as goal

abbrev pub invariant-loop-number : goal.invariant-loop-number
invariant-loop-number l = GainedBelow l.size (inside l.size (number_of l.size l.first) (number_of l.size l.last)) l.number l.initial.set l.set
