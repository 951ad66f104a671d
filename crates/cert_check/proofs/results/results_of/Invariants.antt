use Rattle.cert_check.proofs.Common.{◌≡◌, ◌≤◌, start, node_count, max_nodes, claim_of, node_of, AreOpen, IsPlayable, gathered, joined, node_at, of_node, reversed}
use Rattle.cert_check.proofs.results.results_of.Given as goal

-- What was gathered, and then what is left, is what the whole tree gives.
abbrev pub invariant-loop-barred : goal.invariant-loop-barred
invariant-loop-barred l =
    (joined (gathered l.plays.items l.barred.items l.nodes) (node_at (start l.checked.problem) l.state l.opened.items l.node) ≡ of_node (start l.checked.problem) (start l.checked.problem) (claim_of l.checked.certificate).main)
    × IsPlayable l.state.state (node_of l.state.state.game.size l.node)
    × AreOpen (reversed l.opened.items) l.state.before
    × (node_count (claim_of l.checked.certificate).main ≤ max_nodes)

abbrev pub decreases-loop-barred : goal.decreases-loop-barred
decreases-loop-barred l = (node_at (start l.checked.problem) l.state l.opened.items l.node).nodes
