use Rattle.safe_groups.proofs.Common.{side_of}
use Rattle.safe_groups.proofs.Grounds.{MadeSoFar}
use Rattle.dead_groups.specs.Ground.{masked_cell}
use Rattle.dead_groups.proofs.states.masked.Given as goal

abbrev pub invariant-loop-number : goal.invariant-loop-number
invariant-loop-number l = MadeSoFar (side_of l.elsewhere) (masked_cell l.mask l.cell l.there l.elsewhere) l.made l.number
