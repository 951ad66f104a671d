use Rattle.tsumego_replies.proofs.Common.{◌≡◌, ◌∙◌, ap, subst, string_bytes, IfOk, Answered, IsRejectionOf}
use Rattle.proof_cert.specs.Streamed.{streamed_of, reader_gives}
use Rattle.cert_check.specs.Checks.{Accepts, RejectsAt}
use Rattle.tsumego_replies.proofs.Judged.{accepted_after, rejected_after}
use Rattle.tsumego_replies.proofs.claim.judge_lines.Goals as goal

pub returns-in-Ok : goal.returns-in-Ok
returns-in-Ok g c =
    let q = c.args.problem.now in let n = q.game.size in let front = c.args.front.now in let told = g.R.Read.remaining c.args.reader.now in
    let is : c.new-source.result ≡ streamed_of n front told = c.new-source.ensures ∙ ap (λ m. streamed_of m front told) c.size.ensures in
    let all = c.readers_judged.ensures.accepted q front told c.in-Ok.winner (subst (λ s. Accepts reader_gives s.size q s c.in-Ok.winner) is c.in-Ok.ensures.ok) in
    let text = subst (λ t. IfOk c.said.result (λ r. (r.status ≡ Answered) × (string_bytes r.text ≡ t))) c.wins_text.ensures c.said.ensures in
    accepted_after q front told c.in-Ok.winner c.said.result all text

pub returns-in-Err : goal.returns-in-Err
returns-in-Err g c =
    let q = c.args.problem.now in let n = q.game.size in let front = c.args.front.now in let told = g.R.Read.remaining c.args.reader.now in
    let given = subst (λ m. IfOk c.rejected.result (λ r. IsRejectionOf m c.in-Err.reject r.status (string_bytes r.text))) c.size-in-Err.ensures c.rejected.ensures in
    let is : c.new-source.result ≡ streamed_of n front told = c.new-source.ensures ∙ ap (λ m. streamed_of m front told) c.size.ensures in
    rejected_after q front told c.in-Err.reject c.rejected.result given
    (λ why w. c.readers_judged.ensures.rejected q front told c.in-Err.reject.place why (subst (λ s. RejectsAt reader_gives s.size q s c.in-Err.reject.place why) is (c.in-Err.ensures.err (ap (λ s. s.fault) is) why w)))
