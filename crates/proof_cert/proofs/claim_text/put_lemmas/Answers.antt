use Rattle.proof_cert.proofs.Common.{◌+◌, map, drop, arith, lemma_lines, lemmas_lines, version_number, lemma_of, lines_text, part_put}
use Rattle.proof_cert.proofs.Spellings.{lemmas_text, lemmas_spelled, spelled_rest}
use Rattle.proof_cert.proofs.claim_text.put_lemmas.Goals as goal

pub loop-lemma-preserved : goal.loop-lemma-preserved
loop-lemma-preserved g c =
    let v = version_number c.args.version in
    let n = c.args.size in
    let ls = c.args.lemmas.now in
    let i = c.loop-lemma.lemma-index in
    record {
      spelled = spelled_rest n (lemma_lines v (lemma_of n c.lemma-item.result)) (lemmas_lines v (map (lemma_of n) (drop (i + 1) ls))) (lemmas_spelled v n ls i c.lemma-item.result (omega arith) c.lemma-item.is c.loop-lemma.invariant.spelled);
      so_far = part_put _ _ c.args.pending.now c.loop-lemma.pending (lines_text n (lemmas_lines v (map (lemma_of n) ls))) (lines_text n (lemmas_lines v (map (lemma_of n) (drop i ls)))) c.loop-lemma.invariant.so_far
          (lines_text n (lemma_lines v (lemma_of n c.lemma-item.result))) (lines_text n (lemmas_lines v (map (lemma_of n) (drop (i + 1) ls)))) (lemmas_text v n ls i c.lemma-item.result (omega arith) c.lemma-item.is) c.put_lemma.ensures;
    }
