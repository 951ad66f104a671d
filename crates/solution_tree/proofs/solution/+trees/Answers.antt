use Rattle.solution_tree.proofs.Common.{◌≤◌, ◌+◌, arith, reply_sizes, answer_of, replies_of}
use Rattle.target_game.specs.Answers.{answer_size}
use Rattle.solution_tree.proofs.Writing.{trees_done, reply_smaller}
use Rattle.solution_tree.proofs.solution.+trees.Goals as goal

pub reply_trees-reply_tree-requires : goal.reply_trees-reply_tree-requires
reply_trees-reply_tree-requires t c =
    let small : answer_size (answer_of c.args.size c.loop-turn-item.result.1) + 1 ≤ reply_sizes (replies_of c.args.size c.args.replies.now) =
    reply_smaller c.args.size c.args.replies.now c.loop-turn.turn-index c.loop-turn-item.result c.loop-turn-test.true c.loop-turn-item.is in
    (omega (arith, small, c.decreases), tt)

pub reply_trees-returns : goal.reply_trees-returns
reply_trees-returns t c =
    trees_done c.args.size c.args.mover c.args.replies.now c.loop-turn.trees.items c.loop-turn.turn-index (omega (arith, c.loop-turn-test.false, c.loop-turn.auto.turn-index-end)) c.loop-turn.invariant
