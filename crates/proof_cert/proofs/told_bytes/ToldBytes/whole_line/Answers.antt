use Rattle.proof_cert.proofs.Common.{rules, ◌+◌, ◌++◌, ◌∙◌, sym, take, drop, subst, arith, option_map, Some, Ok, Err, line_value, Unread, IsRead, Malformed}
use Rattle.proof_cert.proofs.Streams.{line_read, line_unread}
use Rattle.proof_cert.proofs.told_bytes.ToldBytes.whole_line.Goals as goal

pub returns-in-Some-clause-some : goal.returns-in-Some-clause-some
returns-in-Some-clause-some g c =
    let a = c.self.inside in let kept = c.self.invariant in let y = c.args.spelling in let n = c.args.size in let k = c.in_ok-length.length in
    let told = g.R.Read.remaining a.rest.reader in
    subst (λ (v : Unread). IsRead y n v (record { held = drop (a.start + k + 1) (take a.end a.block) ++ a.rest.front.now; told = told }) (Ok (Some (line_value n c.in-Some.line)))) c.self.view_is
    (line_read told a.rest.front.now a.start a.end k a.block (omega (arith, kept)) (sym c.place_of_byte.ensures ∙ c.in_ok-length.was) y n (option_map (line_value n) c.read.result) c.read.ensures (line_value n c.in-Some.line) (search rules))

pub returns-in-None-clause-some : goal.returns-in-None-clause-some
returns-in-None-clause-some g c =
    let a = c.self.inside in let kept = c.self.invariant in let y = c.args.spelling in let n = c.args.size in let k = c.in_ok-length.length in
    let told = g.R.Read.remaining a.rest.reader in
    subst (λ (v : Unread). IsRead y n v v (Err Malformed)) c.self.view_is
    (line_unread told a.rest.front.now a.start a.end k a.block (omega (arith, kept)) (sym c.place_of_byte.ensures ∙ c.in_ok-length.was) y n (option_map (line_value n) c.read.result) c.read.ensures (search rules))
