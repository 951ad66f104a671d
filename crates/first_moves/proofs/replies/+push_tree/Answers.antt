use Rattle.std.proofs.Common.{◌<◌, arith}
use Rattle.sgf_text.specs.Trees.{tree_count}
use Rattle.sgf_text.proofs.TreeTextLemmas.{kid_is_smaller}
use Rattle.first_moves.proofs.replies.+push_tree.Goals as goal

pub push_tree-requires : goal.push_tree-requires
push_tree-requires t c =
    let small : tree_count c.child-item.result < tree_count c.args.tree.now = kid_is_smaller c.args.tree.now c.children-child-items.result.now c.loop-child.child-index c.child-item.result c.children-child-items.ensures c.loop-child-test.true c.child-item.is in
    (omega (arith, small, c.decreases), tt)
