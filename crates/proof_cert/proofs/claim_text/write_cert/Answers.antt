use Rattle.proof_cert.proofs.Common.{◌≡◌, false, Option, Some, List, ℕ, refl, sym, subst, rules, list_all, lines_of, is_spelled, text, claim_of, lines_text}
use Rattle.std.specs.Prelude.{IsSomeAnd}
use Rattle.std.specs.Io.KnownBytes.{Appends}
use Rattle.byte_writer.specs.Taken.{TakesPart}
use Rattle.proof_cert.proofs.Spellings.{AreSpelled, text_is, no_text}
use Rattle.proof_cert.proofs.claim_text.write_cert.Goals as goal

pub returns-then-not-is_spelled_claim-clause-unspelled : goal.returns-then-not-is_spelled_claim-clause-unspelled
returns-then-not-is_spelled_claim-clause-unspelled g c =
    let z = claim_of c.args.certificate.now in
    let none : list_all (is_spelled z.size) (lines_of z) ≡ false = search rules in
    (λ e. no_text z.size (lines_of z) none, λ e. refl)

pub returns-in-Ok-clause-unspelled : goal.returns-in-Ok-clause-unspelled
returns-in-Ok-clause-unspelled g c =
    let z = claim_of c.args.certificate.now in
    let spelled : AreSpelled z.size (lines_of z) = search rules in
    let some : text z ≡ Some (lines_text z.size (lines_of z)) = text_is z.size (lines_of z) spelled in
    (λ e. cc, λ e. cc)

pub returns-in-Ok-clause-written : goal.returns-in-Ok-clause-written
returns-in-Ok-clause-written g c =
    let z = claim_of c.args.certificate.now in
    let spelled : AreSpelled z.size (lines_of z) = search rules in
    let some : text z ≡ Some (lines_text z.size (lines_of z)) = text_is z.size (lines_of z) spelled in
    subst (λ (o : Option (List ℕ)). IsSomeAnd o (λ bytes. Appends (g.W.Write.contents c.args.writer.now) (g.W.Write.contents c.write_spelled.new.writer) bytes)) (sym some) c.in-Ok.ensures.written

pub returns-in-Err-Write-clause-unspelled : goal.returns-in-Err-Write-clause-unspelled
returns-in-Err-Write-clause-unspelled g c =
    let z = claim_of c.args.certificate.now in
    let spelled : AreSpelled z.size (lines_of z) = search rules in
    let some : text z ≡ Some (lines_text z.size (lines_of z)) = text_is z.size (lines_of z) spelled in
    (λ e. cc, λ e. cc)

pub returns-in-Err-Write-clause-cut : goal.returns-in-Err-Write-clause-cut
returns-in-Err-Write-clause-cut g c = λ e.
    let z = claim_of c.args.certificate.now in
    let spelled : AreSpelled z.size (lines_of z) = search rules in
    let some : text z ≡ Some (lines_text z.size (lines_of z)) = text_is z.size (lines_of z) spelled in
    subst (λ (o : Option (List ℕ)). IsSomeAnd o (λ bytes. TakesPart (g.W.Write.contents c.args.writer.now) (g.W.Write.contents c.write_spelled.new.writer) bytes)) (sym some) c.in-Err-Write.ensures.cut
