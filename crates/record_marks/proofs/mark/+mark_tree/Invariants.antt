use Rattle.sgf_text.specs.Trees.{tree_count}
use Rattle.record_marks.proofs.mark.+mark_tree.Given as goal

abbrev pub decreases-mark_tree : goal.decreases-mark_tree
decreases-mark_tree l = tree_count l.tree.now
