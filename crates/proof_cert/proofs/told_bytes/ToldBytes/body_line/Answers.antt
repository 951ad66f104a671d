use Rattle.proof_cert.proofs.Common.{◌≡◌, ◌+◌, ◌-◌, ◌++◌, ◌∙◌, sym, take, drop, subst, arith, Some, Ok, refl, body_value, Unread, IsRead, line_by}
use Rattle.proof_cert.proofs.Streams.{line_read}
use Rattle.proof_cert.proofs.told_bytes.ToldBytes.body_line.Goals as goal

pub returns-clause-some : goal.returns-clause-some
returns-clause-some g c =
    let a = c.self.inside in let kept = c.self.invariant in let y = c.args.spelling in let n = c.args.size in let k = c.in_ok-length.length in
    let l = body_value n c.in_ok-line.line in
    let told = g.R.Read.remaining a.rest.reader in
    let spelled : line_by y n (take (a.start + k - a.start) (drop a.start a.block)) ≡ Some l = c.in_ok-line.ensures in
    subst (λ (v : Unread). IsRead y n v (record { held = drop (a.start + k + 1) (take a.end a.block) ++ a.rest.front.now; told = told }) (Ok (Some l))) c.self.view_is
    (line_read told a.rest.front.now a.start a.end k a.block (omega (arith, kept)) (sym c.place_of_byte.ensures ∙ c.in_ok-length.was) y n (line_by y n (take (a.start + k - a.start) (drop a.start a.block))) refl l spelled)
