use Rattle.solution_tree.proofs.Common.{◌≡◌, ◌+◌, ◌*◌, ℕ, ◌≤◌, List, ◌++◌, [], ◌∷◌, ap, sym, arith, subst, Option, Turn, reply_sizes, answer_of, replies_of, Answer}
use Rattle.std.proofs.Common.{◌^◌}
use Rattle.std.specs.Prelude.{IfNone}
use Rattle.target_game.specs.Answers.{answer_size}
use Rattle.solution_tree.proofs.AnswerTrees.{below_turn, below_replies, part_won, part_turn, part_replies, sizes_last, sizes_more, sizes_done, empty_sizes}
use Rattle.solution_tree.proofs.answer.+size.Goals as goal

pub size_with-returns-in-Won-clause-some : goal.size_with-returns-in-Won-clause-some
size_with-returns-in-Won-clause-some t c = λ n. omega (arith, c.loop-part.invariant.0 n, part_won n c.loop-part.part.now c.in-Won.is)

pub size_with-returns-in_err-count-in-Turn-clause-none : goal.size_with-returns-in_err-count-in-Turn-clause-none
size_with-returns-in_err-count-in-Turn-clause-none t c =
    subst (λ (o : Option ℕ). IfNone o ((n : ℕ) → 2 ^ 64 ≤ c.args.before + answer_size (answer_of n c.args.answer.now))) (sym c.from_residual.ensures)
    (λ n. omega (arith, c.in_err-count-in-Turn.ensures, c.loop-part.invariant.0 n, part_turn n c.loop-part.part.now c.in-Turn.field-0 c.in-Turn.below c.in-Turn.is))

pub size_with-returns-in_default-clause-some : goal.size_with-returns-in_default-clause-some
size_with-returns-in_default-clause-some t c =
    λ n. omega (arith, c.loop-part.invariant.0 n, part_replies n c.loop-part.part.now c.in-Replies.replies c.deref.result.now c.in-Replies.is c.deref.ensures.value, empty_sizes n c.deref.result.now c.in_default.ensures.cases)

pub size_with-returns-in_err-sizes_with-in-Replies-clause-none : goal.size_with-returns-in_err-sizes_with-in-Replies-clause-none
size_with-returns-in_err-sizes_with-in-Replies-clause-none t c =
    let rest : c.deref.result.now ≡ c.in-Some.others.now ++ c.in-Some.last.now ∷ [] = c.in-Some.ensures.cases.0 in
    let far = c.in_err-sizes_with-in-Replies.ensures.none in
    subst (λ (o : Option ℕ). IfNone o ((n : ℕ) → 2 ^ 64 ≤ c.args.before + answer_size (answer_of n c.args.answer.now))) (sym c.from_residual-in_err-sizes_with-in-Replies.ensures)
    (λ n. omega (arith, far n, c.loop-part.invariant.0 n, part_replies n c.loop-part.part.now c.in-Replies.replies c.deref.result.now c.in-Replies.is c.deref.ensures.value, ap (λ (xs : List (Turn × Answer)). reply_sizes (replies_of n xs)) rest, sizes_last n c.in-Some.others.now c.in-Some.last.now))

pub size_with-returns-in_err-count-in-Replies-clause-none : goal.size_with-returns-in_err-count-in-Replies-clause-none
size_with-returns-in_err-count-in-Replies-clause-none t c =
    let rest : c.deref.result.now ≡ c.in-Some.others.now ++ c.in-Some.last.now ∷ [] = c.in-Some.ensures.cases.0 in
    let others = c.in_ok-sizes_with-in-Replies.ensures.some in
    subst (λ (o : Option ℕ). IfNone o ((n : ℕ) → 2 ^ 64 ≤ c.args.before + answer_size (answer_of n c.args.answer.now))) (sym c.from_residual-in_err-count-in-Replies.ensures)
    (λ n. omega (arith, others n, c.in_err-count-in-Replies.ensures, c.loop-part.invariant.0 n, part_replies n c.loop-part.part.now c.in-Replies.replies c.deref.result.now c.in-Replies.is c.deref.ensures.value, ap (λ (xs : List (Turn × Answer)). reply_sizes (replies_of n xs)) rest, sizes_last n c.in-Some.others.now c.in-Some.last.now))

pub sizes_with-returns-in_err-checked_add-clause-none : goal.sizes_with-returns-in_err-checked_add-clause-none
sizes_with-returns-in_err-checked_add-clause-none t c =
    subst (λ (o : Option ℕ). IfNone o ((n : ℕ) → 2 ^ 64 ≤ c.args.before + reply_sizes (replies_of n c.args.replies.now))) (sym c.from_residual.ensures)
    (λ n. omega (arith, c.in_err-checked_add.ensures, c.loop-reply.invariant.0 n, sizes_more n c.args.replies.now c.loop-reply.reply-index c.reply-item.result c.loop-reply-test.true c.reply-item.is))

pub sizes_with-returns-in_err-count-clause-none : goal.sizes_with-returns-in_err-count-clause-none
sizes_with-returns-in_err-count-clause-none t c =
    subst (λ (o : Option ℕ). IfNone o ((n : ℕ) → 2 ^ 64 ≤ c.args.before + reply_sizes (replies_of n c.args.replies.now))) (sym c.from_residual-in_err-count.ensures)
    (λ n. omega (arith, c.in_ok-checked_add.ensures.1, c.in_err-count.ensures.none n, c.loop-reply.invariant.0 n, sizes_more n c.args.replies.now c.loop-reply.reply-index c.reply-item.result c.loop-reply-test.true c.reply-item.is))

pub sizes_with-loop-reply-preserved : goal.sizes_with-loop-reply-preserved
sizes_with-loop-reply-preserved t c = (
  (λ n. omega (arith, c.in_ok-checked_add.ensures.1, c.in_ok-count.ensures.some n, c.loop-reply.invariant.0 n, sizes_more n c.args.replies.now c.loop-reply.reply-index c.reply-item.result c.loop-reply-test.true c.reply-item.is)),
  omega (arith, c.in_ok-checked_add.ensures.1, c.in_ok-count.ensures.some 0, c.loop-reply.invariant.1),
)

pub sizes_with-returns-clause-some : goal.sizes_with-returns-clause-some
sizes_with-returns-clause-some t c = λ n. omega (arith, c.loop-reply.invariant.0 n, sizes_done n c.args.replies.now c.loop-reply.reply-index (omega (arith, c.loop-reply-test.false)))

pub sizes_with-size_with-requires : goal.sizes_with-size_with-requires
sizes_with-size_with-requires t c =
    let mine : 2 * reply_sizes (replies_of 0 c.args.replies.now) + 1 ≡ t = c.decreases in
    (omega (arith, mine, c.loop-reply.invariant.0 0, c.loop-reply.invariant.1, sizes_more 0 c.args.replies.now c.loop-reply.reply-index c.reply-item.result c.loop-reply-test.true c.reply-item.is), tt)

pub size_with-sizes_with-requires : goal.size_with-sizes_with-requires
size_with-sizes_with-requires t c =
    let mine : 2 * answer_size (answer_of 0 c.args.answer.now) ≡ t = c.decreases in
    let rest : c.deref.result.now ≡ c.in-Some.others.now ++ c.in-Some.last.now ∷ [] = c.in-Some.ensures.cases.0 in
    (omega (arith, mine, c.loop-part.invariant.0 0, c.loop-part.invariant.1, part_replies 0 c.loop-part.part.now c.in-Replies.replies c.deref.result.now c.in-Replies.is c.deref.ensures.value, ap (λ (xs : List (Turn × Answer)). reply_sizes (replies_of 0 xs)) rest, sizes_last 0 c.in-Some.others.now c.in-Some.last.now), tt)

pub size_with-loop-part-smaller-in-Turn : goal.size_with-loop-part-smaller-in-Turn
size_with-loop-part-smaller-in-Turn t c = omega (arith, part_turn 0 c.loop-part.part.now c.in-Turn.field-0 c.in-Turn.below c.in-Turn.is, ap (λ (a : Answer). answer_size (answer_of 0 a)) c.deref-part.ensures)

pub size_with-loop-part-preserved-in-Turn : goal.size_with-loop-part-preserved-in-Turn
size_with-loop-part-preserved-in-Turn t c =
    let more : c.in_ok-count-in-Turn.count ≡ c.loop-part.count + 1 = c.in_ok-count-in-Turn.ensures.1 in (
      below_turn c.loop-part.count c.in_ok-count-in-Turn.count c.args.before c.args.answer.now c.loop-part.part.now c.deref-part.result.now c.in-Turn.field-0 c.in-Turn.below c.in-Turn.is c.deref-part.ensures more c.loop-part.invariant.0,
      omega (arith, more, c.loop-part.invariant.1),
    )

pub size_with-loop-part-smaller : goal.size_with-loop-part-smaller
size_with-loop-part-smaller t c =
    let rest : c.deref.result.now ≡ c.in-Some.others.now ++ c.in-Some.last.now ∷ [] = c.in-Some.ensures.cases.0 in
    omega (arith, part_replies 0 c.loop-part.part.now c.in-Replies.replies c.deref.result.now c.in-Replies.is c.deref.ensures.value, ap (λ (xs : List (Turn × Answer)). reply_sizes (replies_of 0 xs)) rest, sizes_last 0 c.in-Some.others.now c.in-Some.last.now)

pub size_with-loop-part-preserved : goal.size_with-loop-part-preserved
size_with-loop-part-preserved t c =
    let more : c.in_ok-count-in-Replies.count ≡ c.in_ok-sizes_with-in-Replies.field-0 + 1 = c.in_ok-count-in-Replies.ensures.1 in (
      below_replies c.loop-part.count c.in_ok-sizes_with-in-Replies.field-0 c.in_ok-count-in-Replies.count c.args.before c.args.answer.now c.loop-part.part.now c.in-Replies.replies c.deref.result.now c.in-Some.others.now c.in-Some.last.now c.in-Replies.is c.deref.ensures.value c.in-Some.ensures.cases c.in_ok-sizes_with-in-Replies.ensures.some more c.loop-part.invariant.0,
      omega (arith, more, c.in_ok-sizes_with-in-Replies.ensures.some 0, c.loop-part.invariant.1),
    )
