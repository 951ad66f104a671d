use Rattle.solution_tree.proofs.Common.{◌≡◌, ◌≤◌, IsTrue, GameState, node_of, lemma_count, tree_at, uses_below}
use Rattle.solution_tree.proofs.opened.body_of.Given as goal

-- The part is expanded as the node is, and uses lower and lower lemmas.
abbrev pub invariant-loop-part : goal.invariant-loop-part
invariant-loop-part l =
    ((s : GameState) → tree_at l.checked (node_of l.checked.certificate.size l.part) s ≡ tree_at l.checked (node_of l.checked.certificate.size l.node) s)
    × IsTrue (uses_below l.below (node_of l.checked.certificate.size l.part))
    × (l.below ≤ lemma_count l.checked)

abbrev pub decreases-loop-part : goal.decreases-loop-part
decreases-loop-part l = l.below
