use Rattle.cert_check.proofs.Common.{◌≡◌, List, ◌++◌, [], ◌∷◌, ap, ◌∙◌, refl, GameProblem, start, Certificate, Use, version_for}
use Rattle.proof_cert.specs.declared.certificate.Lemma.{Lemma}
use Rattle.cert_check.proofs.Lifted.{made_claim}
use Rattle.cert_check.proofs.lifted_claim.claim_of_lemma.Goals as goal

pub returns : goal.returns
returns c =
    let q : GameProblem = c.args.checked.now.problem in
    let same : c.problem-problem.result.now ≡ q = c.problem-problem.ensures in
    made_claim q c.args.checked.now.certificate.winner c.args.had.items c.args.absent.items c.args.body
    (record { version = c.version_with-version.result; size = c.size.result; winner = c.certificate.result.now.winner; lemmas = c.push.new.self; main = Use 1 })
    (record { mover = c.mover.result; passes = c.passes.result; root = c.colouring.result.now; had = c.args.had; absent = c.args.absent; body = c.args.body })
    (c.size.ensures ∙ ap (λ (p : GameProblem). p.game.size) same)
    (c.version_with-version.ensures ∙ ap version_for c.as_slice.ensures.value)
    (ap (λ (d : Certificate). d.winner) c.certificate.ensures)
    (c.in_ok-push.ensures.items ∙ ap (λ (xs : List Lemma). xs ++ (record { mover = c.mover.result; passes = c.passes.result; root = c.colouring.result.now; had = c.args.had; absent = c.args.absent; body = c.args.body }) ∷ []) c.new-lemmas.ensures.items)
    refl
    (c.mover.ensures ∙ ap (λ (p : GameProblem). p.mover) same)
    (c.passes.ensures.value ∙ ap (λ (p : GameProblem). p.passes) same)
    (c.colouring.ensures ∙ ap (λ (p : GameProblem). (start p).colouring) same)
    refl refl refl
