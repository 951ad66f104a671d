use Rattle.target_game.proofs.Common.{◌≡◌, ◌++◌, length, map, ply_of, legal_turns, turns_due}
use Rattle.target_game.proofs.state.State.turns.Given as goal

abbrev pub invariant-loop-turn : goal.invariant-loop-turn
invariant-loop-turn g l = map (ply_of l.self.state.game.size) l.all.items ++ turns_due l.self.state l.left.next ≡ legal_turns l.self.state

abbrev pub decreases-loop-turn : goal.decreases-loop-turn
decreases-loop-turn g l = length (turns_due l.self.state l.left.next)
