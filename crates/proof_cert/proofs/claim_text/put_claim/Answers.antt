use Rattle.proof_cert.proofs.Common.{put_as, then_put, lines_of, claim_of, lines_text}
use Rattle.proof_cert.proofs.Spellings.{claim_text, main_is_spelled}
use Rattle.proof_cert.proofs.claim_text.put_claim.Goals as goal

pub returns : goal.returns
returns g c =
    let z = c.args.certificate.now in
    let spelled = main_is_spelled z c.requires in
    put_as (lines_text z.size (lines_of (claim_of z))) (claim_text z)
    (then_put c.put_header.ensures (then_put (rw c.as_slice.ensures.value at c.put_lemmas.ensures) (then_put c.put_word.ensures (then_put (c.put_node.ensures spelled) c.put_word-2.ensures))))
