use Rattle.proof_cert.proofs.Common.{put_as, then_put, lemma_lines, version_number, lemma_of, lines_text}
use Rattle.proof_cert.proofs.Spellings.{lemma_text, body_is_spelled}
use Rattle.proof_cert.proofs.claim_text.put_lemma.Goals as goal

pub returns : goal.returns
returns g c =
    let n = c.args.size in
    let v = version_number c.args.version in
    let l = c.args.lemma.now in
    let spelled = body_is_spelled v n l c.requires in
    put_as (lines_text n (lemma_lines v (lemma_of n l))) (lemma_text v n l)
    (then_put c.put_lemma_line.ensures (then_put (rw c.as_slice.ensures.value at c.put_all_had.ensures) (then_put (rw c.as_slice-2.ensures.value at c.put_listed.ensures) (then_put (c.put_node.ensures spelled) c.put_word.ensures))))
