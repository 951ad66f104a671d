use Rattle.solution_tree.proofs.Common.{◌≡◌, ◌+◌, length, nat_eq, false, eq-eqb, sym, ap, ◌∙◌, arith, nat_tests, ply_of, turn, rest_of, answer_of, is_single}
use Rattle.target_game.specs.Answers.{answer_size}
use Rattle.solution_tree.proofs.AnswerTrees.{answer_of_won, answer_of_turn, answer_of_replies, size_turn, size_replies}
use Rattle.solution_tree.proofs.Writing.{one_reply, only_reply, only_size}
use Rattle.solution_tree.proofs.solution.single_turn.Goals as goal

pub returns-in-Won-clause-some : goal.returns-in-Won-clause-some
returns-in-Won-clause-some c n = sym (ap is_single (ap (answer_of n) c.in-Won.is ∙ answer_of_won n))

pub returns-in-Turn-clause-some : goal.returns-in-Turn-clause-some
returns-in-Turn-clause-some c n = sym (ap is_single (ap (answer_of n) c.in-Turn.is ∙ answer_of_turn n c.in-Turn.turn c.in-Turn.below))

pub returns-in-Turn-clause-rest : goal.returns-in-Turn-clause-rest
returns-in-Turn-clause-rest c n k =
    ap (rest_of n k) (ap (answer_of n) c.in-Turn.is ∙ answer_of_turn n c.in-Turn.turn c.in-Turn.below)
    ∙ ap (λ b. rest_of n k (turn (ply_of n c.in-Turn.turn) (answer_of n b))) (sym c.deref.ensures)

pub returns-in-Turn-clause-size : goal.returns-in-Turn-clause-size
returns-in-Turn-clause-size c n =
    ap (λ a. answer_size (answer_of n a)) c.in-Turn.is ∙ size_turn n c.in-Turn.turn c.in-Turn.below ∙ ap (λ b. 1 + answer_size (answer_of n b)) (sym c.deref.ensures)

pub returns-then-len-eq1-clause-some : goal.returns-then-len-eq1-clause-some
returns-then-len-eq1-clause-some c n =
    let items = c.in-Replies.replies.items in
    let one : length items ≡ 1 = omega (arith, c.len.ensures, c.if-len-eq1.true) in
    sym (ap is_single (ap (answer_of n) c.in-Replies.is ∙ answer_of_replies n c.in-Replies.replies) ∙ one_reply n items ∙ eq-eqb (length items) 1 one)

pub returns-then-len-eq1-clause-rest : goal.returns-then-len-eq1-clause-rest
returns-then-len-eq1-clause-rest c n k =
    let items = c.in-Replies.replies.items in
    let one : length items ≡ 1 = omega (arith, c.len.ensures, c.if-len-eq1.true) in
    ap (rest_of n k) (ap (answer_of n) c.in-Replies.is ∙ answer_of_replies n c.in-Replies.replies) ∙ only_reply n k items c.index.result.now one c.index.ensures

pub returns-then-len-eq1-clause-size : goal.returns-then-len-eq1-clause-size
returns-then-len-eq1-clause-size c n =
    let items = c.in-Replies.replies.items in
    let one : length items ≡ 1 = omega (arith, c.len.ensures, c.if-len-eq1.true) in
    ap (λ a. answer_size (answer_of n a)) c.in-Replies.is ∙ size_replies n c.in-Replies.replies ∙ only_size n items c.index.result.now one c.index.ensures

pub returns-else-len-eq1-clause-some : goal.returns-else-len-eq1-clause-some
returns-else-len-eq1-clause-some c n =
    let items = c.in-Replies.replies.items in
    let other : nat_eq (length items) 1 ≡ false = (let l = c.len.ensures in let m = c.if-len-eq1.false in grind (arith, nat_tests)) in
    sym (ap is_single (ap (answer_of n) c.in-Replies.is ∙ answer_of_replies n c.in-Replies.replies) ∙ one_reply n items ∙ other)
