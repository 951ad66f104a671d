use Rattle.std.proofs.Common.{◌≡◌}
use Rattle.target_game.proofs.OpenPoints.{IsFound, points_left}
use Rattle.target_game.proofs.state.State.make_next_move.Given as goal

abbrev pub invariant-loop-found : goal.invariant-loop-found
invariant-loop-found g l = (l.self ≡ l.initial.self) × IsFound l.initial.self.state l.from l.found

abbrev pub decreases-loop-found : goal.decreases-loop-found
decreases-loop-found g l = points_left l.initial.self.state.game.size l.found
