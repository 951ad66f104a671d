use Rattle.std.proofs.Common.{arith}
use Rattle.sgf_text.proofs.ForestLemmas.{forest_more}
use Rattle.sgf_text.proofs.tree.know_children.Goals as goal

pub loop-child-preserved : goal.loop-child-preserved
loop-child-preserved c = forest_more c.args.children.now c.loop-child.child-index c.child-item.result (omega arith) c.child-item.is c.nodes-nodes.ensures.whole c.loop-child.invariant
