use Rattle.cert_check.proofs.Common.{sym, subst, Colour, start, Wins, claim_of, KeepsPromises, height_of, CheckedClaim}
use Rattle.cert_check.proofs.Soundness.{valid_claims_win}
use Rattle.cert_check.proofs.held_claim.Checked.winner.Goals as goal

pub returns-clause-wins : goal.returns-clause-wins
returns-clause-wins c =
    let q = c.self.inside.problem in
    let z = claim_of c.self.inside.certificate in
    let checked = c.self.invariant.0 in
    let both = valid_claims_win q z c.history.ensures.problem.present checked.valid in
    subst (λ (k : CheckedClaim). Wins c.self.inside.winner (start k.problem)) c.self.view_is (subst (λ (x : Colour). Wins x (start q)) (sym c.self.invariant.1) (height_of z, both.1))

pub returns-clause-lemmas : goal.returns-clause-lemmas
returns-clause-lemmas c =
    let q = c.self.inside.problem in
    let z = claim_of c.self.inside.certificate in
    let checked = c.self.invariant.0 in
    subst (λ (k : CheckedClaim). KeepsPromises k.problem (claim_of k.certificate)) c.self.view_is (valid_claims_win q z c.history.ensures.problem.present checked.valid).0
