use Rattle.proof_cert.proofs.Common.{drop, map, IsTrue, list_all, lemmas_lines, is_spelled, version_number, lemma_of, lines_text, SoFar}
use Rattle.proof_cert.proofs.claim_text.put_lemmas.Given as goal

abbrev pub invariant-loop-lemma : goal.invariant-loop-lemma
invariant-loop-lemma g l = record {
  spelled : IsTrue (list_all (is_spelled l.size) (lemmas_lines (version_number l.version) (map (lemma_of l.size) (drop l.lemma-index l.lemmas))));
  so_far : SoFar (g.W.Write.contents l.initial.writer) (g.W.Write.contents l.writer) l.initial.pending l.pending (lines_text l.size (lemmas_lines (version_number l.version) (map (lemma_of l.size) l.lemmas))) (lines_text l.size (lemmas_lines (version_number l.version) (map (lemma_of l.size) (drop l.lemma-index l.lemmas))));
}
