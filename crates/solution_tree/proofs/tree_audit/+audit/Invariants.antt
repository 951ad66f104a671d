use Rattle.solution_tree.proofs.Common.{◌≡◌, ◌≤◌, ◌+◌, ◌*◌, [], List, IsTrue, length, Ply, is_forest, forest_of, forest_count, nodes_of, count_nodes, faults_below, Tells}
use Rattle.solution_tree.proofs.tree_audit.+audit.Given as goal

abbrev pub decreases-audit_sequence : goal.decreases-audit_sequence
decreases-audit_sequence a = 3 * forest_count (forest_of a.children.now) + 1

abbrev pub decreases-audit_children : goal.decreases-audit_children
decreases-audit_children a = 3 * forest_count (forest_of a.children.now)

abbrev pub decreases-audit_child : goal.decreases-audit_child
decreases-audit_child a = 3 * forest_count a.child.now.children + 2

abbrev pub invariant-audit_children-loop-child : goal.invariant-audit_children-loop-child
invariant-audit_children-loop-child l =
    (l.state ≡ l.initial.state) × IsTrue (is_forest (forest_of l.left))
    × (forest_count (forest_of l.left) ≤ forest_count (forest_of l.children))
    × (l.last + count_nodes (nodes_of (forest_of l.left)) ≡ l.number + count_nodes (nodes_of (forest_of l.children)))
    × ((earlier : List Ply) × Tells l.initial.state.state.game.size l.given earlier
    × (faults_below l.winner l.initial.state.state earlier (l.last + 1) (nodes_of (forest_of l.left)) ≡ faults_below l.winner l.initial.state.state [] (l.number + 1) (nodes_of (forest_of l.children))))

abbrev pub decreases-audit_children-loop-child : goal.decreases-audit_children-loop-child
decreases-audit_children-loop-child l = length l.left
