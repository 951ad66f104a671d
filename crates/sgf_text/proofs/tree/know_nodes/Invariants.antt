use Rattle.sgf_text.proofs.Common.{take, IsTrue, list_all, is_node}
use Rattle.sgf_text.proofs.tree.know_nodes.Given as goal

abbrev pub invariant-loop-node : goal.invariant-loop-node
invariant-loop-node l = IsTrue (list_all is_node (take l.node-index l.nodes))
