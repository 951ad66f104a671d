use Rattle.cert_check.proofs.Common.{rules, arith, ◌≡◌, ◌≤◌, ◌⊎◌, None, Some, IfOk, IfErr, ◌∙◌, subst, refl, MAX_SIZE, claim_of, Held, held_gives, Why, why_value, Rejects, IsChecked, verdict_on, Accepts, RejectsAt, FailsAt, if_ok_map}
use Rattle.cert_check.specs.declared.reject.Why.TheVariants as stops
use Rattle.cert_check.proofs.Steps.{if_err_both}
use Rattle.cert_check.proofs.Holding.{held_accepted, held_refused}
use Rattle.cert_check.proofs.held_claim.judge_held.Goals as goal
use Rattle.std.proofs.lemmas.Result.{IfErr-weaker}

-- the size is that of the problem
same_size : (c : goal.After-drop-new) → (1 ≤ c.args.problem.now.game.size) × (c.args.problem.now.game.size ≤ MAX_SIZE) × (c.args.certificate.now.size ≡ c.args.problem.now.game.size)
same_size c =
    let rows : c.rows.result ≡ c.args.problem.now.game.size = c.rows.ensures.value ∙ c.size.ensures in
    let named : c.args.certificate.now.size ≡ c.size-2.result = search rules in
    (omega (arith, rows, c.rows.ensures.least), omega (arith, rows, c.rows.ensures.most), named ∙ c.size-2.ensures)

-- what a refusal says
refused : (c : goal.After-drop-new) → IfErr c.check.result (λ e. ((e.why ≡ stops.Memory) ⊎ (IsChecked c.args.problem.now (claim_of c.args.certificate.now) → ⊥)) × Rejects c.args.problem.now.game.size (verdict_on c.args.problem.now (claim_of c.args.certificate.now)) e × (e.why ≡ stops.Read → ⊥))
refused c =
    let q = c.args.problem.now in
    let z = claim_of c.args.certificate.now in
    let sizes = same_size c in
    let rejects = subst (λ (h : Held). h.fault ≡ None → IfErr c.check.result (λ e. (w : Why) → why_value q.game.size e.why ≡ Some w → RejectsAt held_gives h.size q h e.place w)) c.new.ensures c.check.ensures.err refl in
    let fails = subst (λ (h : Held). h.fault ≡ None → IfErr c.check.result (λ e. e.why ≡ stops.Read → FailsAt held_gives (λ (s : Held). s.number) h.size q h e.place)) c.new.ensures c.check.ensures.read refl in
    IfErr-weaker c.check.result _ _ (λ e h. held_refused q z sizes.0 sizes.1 sizes.2 c.lines_given_of_claim.ensures e h.0 h.1) (if_err_both c.check.result _ _ rejects fails)

pub returns-clause-ok : goal.returns-clause-ok
returns-clause-ok c =
    let q = c.args.problem.now in
    let z = claim_of c.args.certificate.now in
    let sizes = same_size c in
    let checked = subst (λ (h : Held). IfOk c.check.result (λ x. Accepts held_gives h.size q h x)) c.new.ensures c.check.ensures.ok in
    if_ok_map c.check.result _ _ (λ x h. held_accepted q z sizes.0 sizes.1 sizes.2 c.lines_given_of_claim.ensures c.one_claim_of_text.ensures x h) checked

pub returns-clause-err : goal.returns-clause-err
returns-clause-err c = IfErr-weaker c.check.result _ _ (λ e h. h.0) (refused c)

pub returns-clause-fault : goal.returns-clause-fault
returns-clause-fault c = IfErr-weaker c.check.result _ _ (λ e h. h.1) (refused c)
