use Rattle.tsumego_problem.proofs.Common.{◌*◌, map, number_of, holds_point}
use Rattle.tsumego_problem.proofs.Recording.{AllFrom}
use Rattle.tsumego_problem.proofs.canonical.are_all.Given as goal

abbrev pub invariant-loop-number : goal.invariant-loop-number
invariant-loop-number l = AllFrom (holds_point (map (number_of l.size) l.set)) l.number (l.size * l.size)
