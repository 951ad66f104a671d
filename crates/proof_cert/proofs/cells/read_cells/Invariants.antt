use Rattle.proof_cert.proofs.Stones.{StonesSoFar}
use Rattle.proof_cert.proofs.cells.read_cells.Given as goal

abbrev pub invariant-loop-number : goal.invariant-loop-number
invariant-loop-number l = StonesSoFar l.size l.text l.colouring l.number
