use Rattle.target_game.proofs.Common.{◌≤◌, ◌+◌, ◌-◌, ◌*◌, IsOn, number_of, NoneLegal}
use Rattle.target_game.proofs.state.State.open_after.Given as goal

-- the points after the first one, up to this one, are no legal moves
abbrev pub invariant-loop-next : goal.invariant-loop-next
invariant-loop-next g l = record {
  on_board : IsOn l.self.state.game.size l.last;
  later : number_of l.self.state.game.size l.initial.last ≤ number_of l.self.state.game.size l.last;
  none : NoneLegal l.self.state (number_of l.self.state.game.size l.initial.last + 1) (number_of l.self.state.game.size l.last + 1);
}

abbrev pub decreases-loop-next : goal.decreases-loop-next
decreases-loop-next g l = l.self.state.game.size * l.self.state.game.size - number_of l.self.state.game.size l.last
