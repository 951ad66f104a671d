use Rattle.sgf_text.proofs.ReadTree.{ReadSoFar}
use Rattle.sgf_text.proofs.read.read_tree.Given as goal

abbrev pub invariant-loop-at : goal.invariant-loop-at
invariant-loop-at l = ReadSoFar l.text l.seen l.place l.at l.trees
