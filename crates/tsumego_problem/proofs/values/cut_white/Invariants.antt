use Rattle.std.proofs.Common.{◌≡◌, ◌≤◌, take, length, reverse}
use Rattle.tsumego_problem.specs.Values.{skip_white}
use Rattle.tsumego_problem.proofs.values.cut_white.Given as goal

abbrev pub invariant-loop-end : goal.invariant-loop-end
invariant-loop-end l = (l.end ≤ length l.text) × (skip_white (reverse (take l.end l.text)) ≡ skip_white (reverse l.text))

abbrev pub decreases-loop-end : goal.decreases-loop-end
decreases-loop-end l = l.end
