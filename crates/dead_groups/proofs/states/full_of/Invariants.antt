use Rattle.safe_groups.proofs.Grounds.{MadeSoFar}
use Rattle.dead_groups.proofs.states.full_of.Given as goal

abbrev pub invariant-loop-number : goal.invariant-loop-number
invariant-loop-number l = MadeSoFar l.size (λ p. l.cell) l.made l.number
