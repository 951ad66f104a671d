use Rattle.tsumego.proofs.Common.{rules, ◌≡◌, ◌≤◌, ◌∙◌, Err, inr, ap, MAX_SIZE, claim_of}
use Rattle.cert_check.specs.declared.lift_fault.Lift.TheVariants.{Limit}
use Rattle.tsumego.proofs.Answering.{never_accepted}
use Rattle.tsumego.proofs.answer.said_as_lemma.Goals as goal

pub returns-in-Err-Limit : goal.returns-in-Err-Limit
returns-in-Err-Limit c =
    let k = c.args.checked.now in
    let z = claim_of k.certificate in
    let low : 1 ≤ k.problem.game.size = search rules in
    let high : k.problem.game.size ≤ MAX_SIZE = search rules in
    let is : c.lift.result ≡ Err Limit = c.in-Err-Limit.is ∙ ap (λ e. Err e) c.in-Err-Limit.field-0-is in
    let never = never_accepted c.accepts_valid_texts.ensures k.problem low high z c.winner-winner.ensures.checked c.one_claim_of_text.ensures (c.lift.ensures.limit is) in
    let same : claim_of c.certificate-in-Err-Limit.result.now ≡ z = ap claim_of c.certificate-in-Err-Limit.ensures in
    c.said_with-in-Err-Limit.ensures _ (inr (inr never, same))
