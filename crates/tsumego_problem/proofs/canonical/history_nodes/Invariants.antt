use Rattle.tsumego_problem.proofs.Recording.{NodesLeft}
use Rattle.tsumego_problem.proofs.canonical.history_nodes.Given as goal

abbrev pub invariant-loop-place : goal.invariant-loop-place
invariant-loop-place l = NodesLeft l.size l.nodes.items l.place l.history
