use Rattle.cert_check.proofs.Common.{◌≡◌, length, GameState, replies_of, ArePlayable, AreOpen, due_at, reversed}
use Rattle.cert_check.proofs.results.next_reply.Given as goal

-- What is due here, and at the states before, is what was due at first.
abbrev pub invariant-loop-reply : goal.invariant-loop-reply
invariant-loop-reply l =
    ArePlayable l.state.state (replies_of l.state.state.game.size l.due)
    × AreOpen (reversed l.opened.items) l.state.before
    × ((past : GameState) → due_at past l.state l.opened.items l.due ≡ due_at past l.fn.state l.fn.opened.items l.fn.due)

abbrev pub decreases-loop-reply : goal.decreases-loop-reply
decreases-loop-reply l = length l.opened.items
