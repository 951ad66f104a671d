use Rattle.std.proofs.Common.{◌≡◌, take}
use Rattle.sgf_text.specs.Trees.{tree_count}
use Rattle.tool_parts.proofs.copies.+copy_tree.Given as goal

abbrev pub decreases-copy_tree : goal.decreases-copy_tree
decreases-copy_tree l = tree_count l.tree.now

abbrev pub invariant-loop-child : goal.invariant-loop-child
invariant-loop-child l = l.children.items ≡ take l.child-index l.child-items
