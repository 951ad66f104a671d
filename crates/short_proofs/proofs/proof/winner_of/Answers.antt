use Rattle.std.proofs.Common.{◌≡◌, ◌∙◌, [], Some, rules, ap, subst}
use Rattle.proof_cert.specs.Streamed.{reader_gives, short_streamed_of}
use Rattle.cert_check.specs.Checks.{AcceptsBy}
use Rattle.short_proofs.proofs.proof.winner_of.Goals as goal

pub returns-in-Ok-clause-accepted : goal.returns-in-Ok-clause-accepted
returns-in-Ok-clause-accepted c =
    let n = c.args.problem.now.game.size in
    let claim = c.args.claim.now in
    let size : c.size.result ≡ n = search rules in
    let nothing : c.as_slice-nothing.result.now ≡ [] = search rules in
    let told : c.of_short-source.result ≡ short_streamed_of n claim (Some []) =
    c.of_short-source.ensures ∙ (ap (λ m. short_streamed_of m claim (Some c.as_slice-nothing.result.now)) size ∙ ap (λ xs. short_streamed_of n claim (Some xs)) nothing) in
    λ shape tells. subst (λ s. AcceptsBy shape reader_gives s.size c.args.problem.now s c.in-Ok.winner) told (c.in-Ok.ensures.ok shape tells)
