use Rattle.cert_check.proofs.Common.{◌≡◌, ◌<◌, List, [], length, map, option_map, ap, ◌∙◌, subst, ply_of, GameProblem, start, Claim, claim_of, lemma_of, node_of, Certificate, answers_behind, expand_node, first_turn, first_turn_of}
use Rattle.proof_cert.specs.declared.certificate.Lemma as code
use Rattle.cert_check.proofs.FirstNodes.{first_is, first_due, first_wins}
use Rattle.cert_check.proofs.held_claim.Checked.first_turn.Goals as goal

-- what is known of the claim's first turn
known : (c : goal.After-first_of) → option_map (ply_of c.args.self.now.problem.game.size) c.first_of.result ≡ first_turn (claim_of c.args.self.now.certificate) (start c.args.self.now.problem)
known c =
    let k = c.args.self.now in
    let z : Certificate = c.certificate-certificate.result.now in
    first_is k.certificate k.problem.game.size (start k.problem) c.first_of.result c.winner-winner.ensures.checked.valid.size
    (λ m u. c.first_of.ensures m u
    ∙ ap (λ (ls : List code.Lemma). first_turn_of (expand_node (answers_behind [] (map (lemma_of m) ls)) (node_of m z.main) u)) c.as_slice.ensures.value
    ∙ ap (λ (y : Certificate). first_turn_of (expand_node (answers_behind [] (map (lemma_of m) y.lemmas.items)) (node_of m y.main) u)) c.certificate-certificate.ensures)

-- the law of first turns, at this claim
placed : (c : goal.After-first_of) → c.args.self.now.problem.place < length c.args.self.now.problem.history
placed c = subst (λ (q : GameProblem). q.place < length q.history) c.problem-2.ensures c.history.ensures.problem.present

pub returns-clause-due : goal.returns-clause-due
returns-clause-due c =
    let k = c.args.self.now in
    let z : Claim = claim_of k.certificate in
    let law = c.first_turns_win.ensures k.problem z (placed c) c.winner-winner.ensures.checked.valid in
    first_due k.problem z (ply_of k.problem.game.size) c.first_of.result (known c) law.0 law.1

pub returns-clause-wins : goal.returns-clause-wins
returns-clause-wins c =
    let k = c.args.self.now in
    let z : Claim = claim_of k.certificate in
    let law = c.first_turns_win.ensures k.problem z (placed c) c.winner-winner.ensures.checked.valid in
    first_wins k.problem z (ply_of k.problem.game.size) c.first_of.result (known c) law.1
