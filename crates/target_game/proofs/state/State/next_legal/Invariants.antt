use Rattle.target_game.proofs.OpenPoints.{IsFound, points_left}
use Rattle.target_game.proofs.state.State.next_legal.Given as goal

abbrev pub invariant-loop-found : goal.invariant-loop-found
invariant-loop-found g l = IsFound l.self.state l.from l.found

abbrev pub decreases-loop-found : goal.decreases-loop-found
decreases-loop-found g l = points_left l.self.state.game.size l.found
