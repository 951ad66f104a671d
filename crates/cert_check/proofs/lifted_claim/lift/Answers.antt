use Rattle.cert_check.proofs.Common.{◌≡◌, ◌+◌, ◌≤◌, ℕ, map, length, sym, ap, ◌∙◌, subst, rules, arith, MAX_SIZE, GameProblem, Claim, claim_of, lemma_of, node_of, Certificate, CheckedClaim, IsChecked, IsLifted, claim_with, []}
use Rattle.cert_check.proofs.Lifted.{past_limit, lifted, lifted_checked}
use Rattle.cert_check.proofs.lifted_claim.lift.Goals as goal
use Rattle.std.proofs.lemmas.List.{nil_from_length}

pub returns-then-passes_limit-clause-limit : goal.returns-then-passes_limit-clause-limit
returns-then-passes_limit-clause-limit c =
    let z : Claim = claim_of c.args.checked.now.certificate in
    let listed : c.len.result + c.len-2.result ≡ length c.put_in_order.new.list.items + length c.put_in_order-2.new.list.items = search rules in
    λ _. past_limit z c.put_in_order.new.list.items c.put_in_order-2.new.list.items c.problem-problem.ensures c.history.ensures.problem c.in-Ok.ensures.barred c.in-Ok.ensures.plays c.put_in_order.ensures.order c.put_in_order.ensures.same c.put_in_order-2.ensures.order c.put_in_order-2.ensures.same
    c.in-Ok.results.nodes (c.len.result + c.len-2.result) c.in-Ok.ensures.nodes listed (sym c.passes_limit.ensures ∙ c.if-passes_limit.true)

-- the claim that was made
made : (c : goal.In-Ok-claim_of_lemma) → claim_of c.in-Ok-claim_of_lemma.certificate ≡ claim_with c.args.checked.now.problem c.args.checked.now.certificate.winner c.put_in_order.new.list.items c.put_in_order-2.new.list.items (claim_of c.args.checked.now.certificate).main
made c =
    let k : CheckedClaim = c.args.checked.now in
    c.in-Ok-claim_of_lemma.ensures
    ∙ ap (claim_with k.problem k.certificate.winner c.put_in_order.new.list.items c.put_in_order-2.new.list.items)
    (c.in-Ok-copy.ensures k.problem.game.size ∙ ap (λ (d : Certificate). node_of k.problem.game.size d.main) c.certificate-2.ensures ∙ ap (λ (n : ℕ). node_of n k.certificate.main) (sym c.winner-winner.ensures.checked.valid.size))

pub returns-in-Ok-claim_of_lemma-clause-lifted : goal.returns-in-Ok-claim_of_lemma-clause-lifted
returns-in-Ok-claim_of_lemma-clause-lifted c =
    let z : Claim = claim_of c.args.checked.now.certificate in
    subst (IsLifted c.args.checked.now.problem z) (sym (made c))
    (lifted z c.put_in_order.new.list.items c.put_in_order-2.new.list.items c.problem-problem.ensures c.history.ensures.problem c.in-Ok.ensures.barred c.in-Ok.ensures.plays c.put_in_order.ensures.order c.put_in_order.ensures.same c.put_in_order-2.ensures.order c.put_in_order-2.ensures.same
    c.winner-winner.ensures.checked.valid.size)

pub returns-in-Ok-claim_of_lemma-clause-valid : goal.returns-in-Ok-claim_of_lemma-clause-valid
returns-in-Ok-claim_of_lemma-clause-valid c =
    let k : CheckedClaim = c.args.checked.now in
    let q : GameProblem = k.problem in
    let z : Claim = claim_of k.certificate in
    let rows : c.rows.result ≡ q.game.size = c.rows.ensures.value ∙ c.size.ensures ∙ ap (λ (p : GameProblem). p.game.size) c.problem-problem.ensures in
    let least : 1 ≤ c.rows.result = c.rows.ensures.least in
    let most : c.rows.result ≤ MAX_SIZE = c.rows.ensures.most in
    let listed : c.len.result + c.len-2.result ≡ length c.put_in_order.new.list.items + length c.put_in_order-2.new.list.items = search rules in
    let zero : length k.certificate.lemmas.items ≡ 0 = search rules in
    let none : z.lemmas ≡ [] = ap (map (lemma_of k.certificate.size)) (nil_from_length k.certificate.lemmas.items zero) in
    subst (IsChecked q) (sym (made c))
    (lifted_checked z c.put_in_order.new.list.items c.put_in_order-2.new.list.items c.problem-problem.ensures c.history.ensures.problem c.in-Ok.ensures.barred c.in-Ok.ensures.plays c.put_in_order.ensures.order c.put_in_order.ensures.same c.put_in_order-2.ensures.order c.put_in_order-2.ensures.same
    c.winner-winner.ensures.checked none (omega (arith, rows, least)) (omega (arith, rows, most)) c.in-Ok.results.nodes (c.len.result + c.len-2.result) c.in-Ok.ensures.nodes listed (sym c.passes_limit.ensures ∙ c.if-passes_limit.false) c.lifted_claims_are_right.ensures)
