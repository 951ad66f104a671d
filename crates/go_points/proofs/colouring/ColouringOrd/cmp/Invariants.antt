use Rattle.go_points.proofs.Comparing.{SameBelow}
use Rattle.go_points.proofs.colouring.ColouringOrd.cmp.Given as goal

abbrev pub invariant-loop-number : goal.invariant-loop-number
invariant-loop-number l = SameBelow l.self l.other l.number
