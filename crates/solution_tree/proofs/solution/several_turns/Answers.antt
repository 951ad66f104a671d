use Rattle.solution_tree.proofs.Common.{◌≡◌, [], true, false, sym, ap, ◌∙◌, arith, reply_sizes, rest_of, forest_of_replies, answer_of, replies_of, is_single}
use Rattle.target_game.specs.Answers.{answer_size}
use Rattle.solution_tree.proofs.AnswerTrees.{answer_of_won, answer_of_turn, answer_of_replies, size_replies}
use Rattle.solution_tree.proofs.Writing.{several_rest, no_size}
use Rattle.solution_tree.proofs.solution.several_turns.Goals as goal

pub returns-in-Replies-clause-rest : goal.returns-in-Replies-clause-rest
returns-in-Replies-clause-rest c n k h =
    let items = c.in-Replies.replies.items in
    several_rest n k (answer_of n c.args.answer.now) (replies_of n items) (ap (answer_of n) c.in-Replies.is ∙ answer_of_replies n c.in-Replies.replies) h
    ∙ ap (λ rs. ([], forest_of_replies n k (replies_of n rs))) (sym c.as_slice.ensures.value)

pub returns-in-Replies-clause-size : goal.returns-in-Replies-clause-size
returns-in-Replies-clause-size c n =
    let same : answer_size (answer_of n c.args.answer.now) ≡ reply_sizes (replies_of n c.as_slice.result.now) =
    ap (λ a. answer_size (answer_of n a)) c.in-Replies.is ∙ size_replies n c.in-Replies.replies ∙ ap (λ rs. reply_sizes (replies_of n rs)) (sym c.as_slice.ensures.value) in
    omega (arith, same)

pub returns-in-Won-clause-rest : goal.returns-in-Won-clause-rest
returns-in-Won-clause-rest c n k h = ap (rest_of n k) (ap (answer_of n) c.in-Won.is ∙ answer_of_won n)

pub returns-in-Won-clause-size : goal.returns-in-Won-clause-size
returns-in-Won-clause-size c n = omega (arith, no_size)

pub returns-in-Turn-clause-rest : goal.returns-in-Turn-clause-rest
returns-in-Turn-clause-rest c n k h =
    let single : true ≡ is_single (answer_of n c.args.answer.now) = sym (ap is_single (ap (answer_of n) c.in-Turn.is ∙ answer_of_turn n c.in-Turn.field-0 c.in-Turn.field-1)) in
    let both : true ≡ false = single ∙ h in
    absurd cc

pub returns-in-Turn-clause-size : goal.returns-in-Turn-clause-size
returns-in-Turn-clause-size c n = omega (arith, no_size)
