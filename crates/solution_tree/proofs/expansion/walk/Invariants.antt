use Rattle.solution_tree.proofs.Common.{◌≡◌, ◌+◌, IsTrue, node_of, AreOpen, CanOpen, due, expanded, tree_at, whole}
use Rattle.target_game.specs.Answers.{answer_size}
use Rattle.solution_tree.proofs.expansion.walk.Given as goal

-- The node belongs below the open turns, and those that were made and those that are still to be made are as many as the whole has.
abbrev pub invariant-loop-opened : goal.invariant-loop-opened
invariant-loop-opened l =
    AreOpen l.checked l.opened.items l.state × CanOpen l.checked l.state.state (node_of l.checked.certificate.size l.node)
    × (IsTrue l.keep → whole l.checked l.opened.items l.state (tree_at l.checked (node_of l.checked.certificate.size l.node) l.state.state) ≡ expanded l.checked)
    × (l.limit + answer_size (tree_at l.checked (node_of l.checked.certificate.size l.node) l.state.state) + due l.checked l.opened.items l.state ≡ answer_size (expanded l.checked) + l.left)

abbrev pub decreases-loop-opened : goal.decreases-loop-opened
decreases-loop-opened l = l.left
