use Rattle.solution_tree.proofs.Common.{◌≡◌, ℕ, List, length, IsTrue, GameState, AnswerTree, expand_branches, all_below}
use Rattle.proof_cert.specs.Certificate.{replies_of}
use Rattle.solution_tree.proofs.opened.make_next.Given as goal

-- Nothing was made, and the replies that are left are expanded as all of them.
abbrev pub invariant-loop-reply : goal.invariant-loop-reply
invariant-loop-reply l =
    (l.state ≡ l.initial.state)
    × ((es : List (GameState → AnswerTree)) → expand_branches es (replies_of l.state.state.game.size l.rest) l.state.state ≡ expand_branches es (replies_of l.state.state.game.size l.replies) l.state.state)
    × ((m : ℕ) → IsTrue (all_below m (replies_of l.state.state.game.size l.replies)) → IsTrue (all_below m (replies_of l.state.state.game.size l.rest)))

abbrev pub decreases-loop-reply : goal.decreases-loop-reply
decreases-loop-reply l = length l.rest
