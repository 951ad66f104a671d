use Rattle.sgf_text.specs.Trees.{tree_count}
use Rattle.tsumego_problem.proofs.FirstPlace.{HasGone}
use Rattle.tsumego_problem.proofs.main_line.locate.Given as goal

abbrev pub invariant-loop-at : goal.invariant-loop-at
invariant-loop-at l = HasGone l.tree l.part l.before

abbrev pub decreases-loop-at : goal.decreases-loop-at
decreases-loop-at l = tree_count l.part
