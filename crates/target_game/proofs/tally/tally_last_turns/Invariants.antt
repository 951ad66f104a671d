use Rattle.target_game.proofs.Common.{◌≡◌, length, legal_turns, turns_due, before_turns, with_turns}
use Rattle.target_game.proofs.tally.tally_last_turns.Given as goal

abbrev pub invariant-loop-turn : goal.invariant-loop-turn
invariant-loop-turn l = with_turns l.state.state 0 (turns_due l.state.state l.turns_left.next) l.seen ≡ with_turns l.state.state 0 (legal_turns l.state.state) (before_turns l.state.state.mover l.left)

abbrev pub decreases-loop-turn : goal.decreases-loop-turn
decreases-loop-turn l = length (turns_due l.state.state l.turns_left.next)
