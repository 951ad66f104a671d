use Rattle.proof_cert.proofs.Common.{◌+◌, ◌++◌, [], ◌∷◌, get_or, take, drop, subst, arith, Unread, Uses}
use Rattle.proof_cert.proofs.Streams.{byte_held}
use Rattle.proof_cert.proofs.told_bytes.ToldBytes.next.Goals as goal

pub returns : goal.returns
returns g c =
    let a = c.self.inside in
    let kept = c.self.invariant in
    let other = c.if-self.false in
    let told = g.R.Read.remaining a.rest.reader in
    subst (λ (v : Unread). Uses v (record { held = drop (a.start + 1) (take a.end a.block) ++ a.rest.front.now; told = told }) (get_or a.block a.start 0 ∷ []))
    c.self.view_is (byte_held told a.rest.front.now a.start a.end a.block (omega (arith, kept, other)) (omega (arith, kept)))
