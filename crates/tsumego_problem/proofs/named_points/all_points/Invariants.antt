use Rattle.tsumego_problem.proofs.Common.{◌≡◌, range_with_len, points_in}
use Rattle.tsumego_problem.proofs.named_points.all_points.Given as goal

abbrev pub invariant-loop-number : goal.invariant-loop-number
invariant-loop-number l = l.set ≡ points_in l.size (range_with_len 0 l.number)
