use Rattle.safe_groups.proofs.Spacing.{HasBeside}
use Rattle.safe_groups.proofs.near.add_neighbours.Given as goal

abbrev pub invariant-loop-neighbour : goal.invariant-loop-neighbour
invariant-loop-neighbour l = HasBeside l.fn.size l.fn.stone l.initial.near l.near
