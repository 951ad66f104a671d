use Rattle.target_game.proofs.Histories.{PushedTo}
use Rattle.target_game.proofs.history.with_others.Given as goal

abbrev pub invariant-loop-other : goal.invariant-loop-other
invariant-loop-other l = PushedTo l.first l.others l.history.items l.other-index
