use Rattle.solution_tree.proofs.Common.{◌≡◌, ◌+◌, ℕ, length, faults_of, follows, Leads}
use Rattle.solution_tree.proofs.tree_audit.audit_nodes.Given as goal

abbrev pub invariant-loop-node : goal.invariant-loop-node
invariant-loop-node l =
    (made : ℕ) × (made + length l.left ≡ length l.nodes) × (l.last ≡ l.number + made)
    × Leads made l.initial.state l.state
    × (l.state.state.game.size ≡ l.initial.state.state.game.size)
    × (faults_of l.winner l.state.state l.last (follows l.left l.children) ≡ faults_of l.winner l.initial.state.state l.number (follows l.nodes l.children))

abbrev pub decreases-loop-node : goal.decreases-loop-node
decreases-loop-node l = length l.left
