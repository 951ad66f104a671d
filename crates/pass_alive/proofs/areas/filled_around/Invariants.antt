use Rattle.pass_alive.proofs.Filling.{FilledSoFar}
use Rattle.pass_alive.proofs.areas.filled_around.Given as goal

abbrev pub invariant-loop-number : goal.invariant-loop-number
invariant-loop-number l = FilledSoFar l.colour l.board l.filled l.number
