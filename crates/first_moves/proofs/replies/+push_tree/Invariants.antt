use Rattle.sgf_text.specs.Trees.{tree_count}
use Rattle.first_moves.proofs.replies.+push_tree.Given as goal

abbrev pub decreases-push_tree : goal.decreases-push_tree
decreases-push_tree l = tree_count l.tree.now
