use Rattle.full_search.proofs.Common.{◌≡◌, ◌≤◌, ◌+◌, ◌*◌, turns_due, rest}
use Rattle.std.proofs.Common.{length}
use Rattle.full_search.proofs.Showing.{TurnsSeen}
use Rattle.full_search.proofs.search.+full.Given as goal

abbrev pub decreases-search_state : goal.decreases-search_state
decreases-search_state a = 3 * a.turns

abbrev pub decreases-search_turn : goal.decreases-search_turn
decreases-search_turn a = 3 * a.turns + 1

abbrev pub decreases-search_turns : goal.decreases-search_turns
decreases-search_turns a = 3 * a.turns + 2

abbrev pub invariant-search_turns-loop-next : goal.invariant-search_turns-loop-next
invariant-search_turns-loop-next l =
    (l.state ≡ l.initial.state)
    × (TurnsSeen l.initial.state.state l.turns (turns_due l.initial.state.state l.turns_left.next) l.initial.left l.left l.seen
    × ((l.room ≤ l.initial.room)
    × TurnsSeen l.initial.state.state l.turns (turns_due l.initial.state.state l.turns_left.next) (rest l.initial.left l.initial.room) (rest l.left l.room) l.seen))

abbrev pub decreases-search_turns-loop-next : goal.decreases-search_turns-loop-next
decreases-search_turns-loop-next l = length (turns_due l.initial.state.state l.turns_left.next)
