use Rattle.go_chains.proofs.Common.{side_of, is_liberty}
use Rattle.go_chains.proofs.Gathering.{HeldSoFar}
use Rattle.go_chains.proofs.liberties.liberties_of.Given as goal

abbrev pub invariant-loop-number : goal.invariant-loop-number
invariant-loop-number l = HeldSoFar (side_of l.colouring) (is_liberty (side_of l.colouring) l.colouring l.heads l.head) l.set l.number
