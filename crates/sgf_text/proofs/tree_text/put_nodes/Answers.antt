use Rattle.sgf_text.proofs.Common.{arith, [], node_text, next_put}
use Rattle.sgf_text.proofs.tree_text.put_nodes.Goals as goal

pub loop-node-preserved : goal.loop-node-preserved
loop-node-preserved g c = next_put node_text c.args.nodes.now c.loop-node.node-index c.node-item.result (omega arith) c.node-item.is [] c.loop-node.invariant c.put_node.ensures
