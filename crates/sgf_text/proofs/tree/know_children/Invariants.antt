use Rattle.sgf_text.proofs.Common.{take, IsTrue, is_forest, forest_of}
use Rattle.sgf_text.proofs.tree.know_children.Given as goal

abbrev pub invariant-loop-child : goal.invariant-loop-child
invariant-loop-child l = IsTrue (is_forest (forest_of (take l.child-index l.children)))
