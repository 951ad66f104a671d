use Rattle.solution_tree.proofs.Common.{◌+◌, ◌*◌, reply_sizes, answer_of, replies_of}
use Rattle.target_game.specs.Answers.{answer_size}
use Rattle.solution_tree.proofs.Writing.{TreesLeft}
use Rattle.solution_tree.proofs.solution.+trees.Given as goal

abbrev pub decreases-reply_tree : goal.decreases-reply_tree
decreases-reply_tree a = 2 * answer_size (answer_of a.size a.below.now) + 1

abbrev pub decreases-reply_trees : goal.decreases-reply_trees
decreases-reply_trees a = 2 * reply_sizes (replies_of a.size a.replies.now)

abbrev pub invariant-reply_trees-loop-turn : goal.invariant-reply_trees-loop-turn
invariant-reply_trees-loop-turn l = TreesLeft l.size l.mover l.replies l.trees.items l.turn-index
