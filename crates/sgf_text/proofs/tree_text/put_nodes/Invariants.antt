use Rattle.sgf_text.proofs.Common.{take, flat_map, HasPut, node_text}
use Rattle.sgf_text.proofs.tree_text.put_nodes.Given as goal

abbrev pub invariant-loop-node : goal.invariant-loop-node
invariant-loop-node g l = HasPut (g.W.Write.contents l.initial.writer) (g.W.Write.contents l.writer) l.initial.pending l.pending (flat_map node_text (take l.node-index l.nodes))
