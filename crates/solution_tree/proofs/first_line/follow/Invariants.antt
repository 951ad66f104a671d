use Rattle.solution_tree.proofs.Common.{◌≡◌, length, Nodes, sequence, first_line}
use Rattle.solution_tree.proofs.first_line.follow.Given as goal

abbrev pub invariant-loop-node : goal.invariant-loop-node
invariant-loop-node l =
    (l.state.state.game.size ≡ l.initial.state.state.game.size)
    × ((below : Nodes) → first_line l.last l.state.state (sequence l.left below) ≡ first_line l.number l.initial.state.state (sequence l.nodes below))

abbrev pub decreases-loop-node : goal.decreases-loop-node
decreases-loop-node l = length l.left
