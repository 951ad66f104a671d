use Rattle.safe_groups.proofs.Common.{side_of, number_of}
use Rattle.safe_groups.proofs.Beside.{HasMore}
use Rattle.safe_groups.proofs.liberties.meets_empty.Given as goal

abbrev pub invariant-loop-neighbour : goal.invariant-loop-neighbour
invariant-loop-neighbour l = HasMore (side_of l.state) l.state (number_of (side_of l.state) l.fn.point) l.initial.waiting l.waiting
