use Rattle.sgf_text.proofs.Common.{◌∷◌, ◌++◌, take, flat_map, HasPut, node_text, tree_text, tree_count}
use Rattle.sgf_text.proofs.tree_text.+put_tree.Given as goal

abbrev pub decreases-put_tree : goal.decreases-put_tree
decreases-put_tree g l = tree_count l.tree.now

abbrev pub invariant-loop-child : goal.invariant-loop-child
invariant-loop-child g l = HasPut (g.W.Write.contents l.fn.writer) (g.W.Write.contents l.writer) l.fn.pending l.pending ((40 ∷ flat_map node_text l.tree.nodes) ++ flat_map tree_text (take l.child-index l.child-items))
