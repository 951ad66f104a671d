use Rattle.proof_cert.proofs.Common.{◌≡◌, Option, Some, None, true, sym, ap, ◌∙◌, Source, text, claim_of, Certificate, left_of, claim_read}
use Rattle.std.specs.Prelude.{option_map}
use Rattle.proof_cert.specs.Private.Source.{source_of}
use Rattle.proof_cert.proofs.ReadTexts.{text_is_read}
use Rattle.proof_cert.proofs.read.read_cert.Goals as goal

pub returns-in-Ok-false-clause-malformed : goal.returns-in-Ok-false-clause-malformed
returns-in-Ok-false-clause-malformed c = λ malformed z size text_is within.
    let n = c.args.size in
    let read : claim_read n (left_of (source_of n c.args.bytes.now) 0 0) ≡ Some (claim_of c.in-Ok-Some.certificate) =
    ap (λ (s : Source). claim_read n (left_of s 0 0)) (sym c.new.ensures) ∙ sym c.in-Ok-Some.ensures.read ∙ ap (λ (o : Option Certificate). option_map claim_of o) c.in-Ok-Some.field-0-is in
    let same : z ≡ claim_of c.in-Ok-Some.certificate = cc (sym (text_is_read n c.args.bytes.now z size text_is within) ∙ read) in
    let yes : c.in-Ok-false.field-0 ≡ true = c.in-Ok-false.ensures.1 (ap text (sym same) ∙ text_is) in
    cc

pub returns-in-Ok-None-clause-malformed : goal.returns-in-Ok-None-clause-malformed
returns-in-Ok-None-clause-malformed c = λ malformed z size text_is within.
    let n = c.args.size in
    let missing : claim_read n (left_of (source_of n c.args.bytes.now) 0 0) ≡ None =
    ap (λ (s : Source). claim_read n (left_of s 0 0)) (sym c.new.ensures) ∙ sym c.in-Ok-None.ensures.read ∙ ap (λ (o : Option Certificate). option_map claim_of o) c.in-Ok-None.field-0-is in
    let found = text_is_read n c.args.bytes.now z size text_is within in
    cc
