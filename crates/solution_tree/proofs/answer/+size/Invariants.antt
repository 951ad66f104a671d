use Rattle.solution_tree.proofs.Common.{◌≡◌, ◌+◌, ◌*◌, ℕ, ◌≤◌, drop, reply_sizes, answer_of, replies_of}
use Rattle.target_game.specs.Answers.{answer_size}
use Rattle.solution_tree.proofs.answer.+size.Given as goal

-- The turns that were counted and those that are left are all of them.
abbrev pub invariant-size_with-loop-part : goal.invariant-size_with-loop-part
invariant-size_with-loop-part l =
    ((n : ℕ) → l.count + answer_size (answer_of n l.part) ≡ l.before + answer_size (answer_of n l.answer)) × (l.before ≤ l.count)

abbrev pub decreases-size_with-loop-part : goal.decreases-size_with-loop-part
decreases-size_with-loop-part l = answer_size (answer_of 0 l.part)

abbrev pub invariant-sizes_with-loop-reply : goal.invariant-sizes_with-loop-reply
invariant-sizes_with-loop-reply l =
    ((n : ℕ) → l.count + reply_sizes (replies_of n (drop l.reply-index l.replies)) ≡ l.before + reply_sizes (replies_of n l.replies)) × (l.before ≤ l.count)

-- The turns of the tree, or of the replies, which are counted by one call for each.
abbrev pub decreases-size_with : goal.decreases-size_with
decreases-size_with a = 2 * answer_size (answer_of 0 a.answer.now)

abbrev pub decreases-sizes_with : goal.decreases-sizes_with
decreases-sizes_with a = 2 * reply_sizes (replies_of 0 a.replies.now) + 1
