use Rattle.proof_cert.proofs.Common.{◌≡◌, drop, map, list_all, lemmas_lines, is_spelled, version_number, lemma_of}
use Rattle.proof_cert.proofs.spelled.are_spelled_lemmas.Given as goal

abbrev pub invariant-loop-lemma : goal.invariant-loop-lemma
invariant-loop-lemma l = list_all (is_spelled l.size) (lemmas_lines (version_number l.version) (map (lemma_of l.size) (drop l.lemma-index l.lemmas))) ≡ list_all (is_spelled l.size) (lemmas_lines (version_number l.version) (map (lemma_of l.size) l.lemmas))
