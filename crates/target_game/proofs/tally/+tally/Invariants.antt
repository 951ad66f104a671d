use Rattle.target_game.proofs.Common.{◌≡◌, ◌+◌, ◌*◌, length, legal_turns, turns_due, before_turns, with_turns}
use Rattle.target_game.proofs.tally.+tally.Given as goal

abbrev pub decreases-tally_state : goal.decreases-tally_state
decreases-tally_state a = 2 * a.turns

abbrev pub decreases-tally_turns : goal.decreases-tally_turns
decreases-tally_turns a = 2 * a.turns + 1

abbrev pub invariant-tally_turns-loop-turn : goal.invariant-tally_turns-loop-turn
invariant-tally_turns-loop-turn l =
    (l.state ≡ l.initial.state)
    × (with_turns l.initial.state.state l.turns (turns_due l.initial.state.state l.turns_left.next) l.seen
    ≡ with_turns l.initial.state.state l.turns (legal_turns l.initial.state.state) (before_turns l.initial.state.state.mover l.left))

abbrev pub decreases-tally_turns-loop-turn : goal.decreases-tally_turns-loop-turn
decreases-tally_turns-loop-turn l = length (turns_due l.initial.state.state l.turns_left.next)
