use Rattle.proof_cert.proofs.Common.{◌≡◌, ◌-◌, map, length, lemma_of, left_of, lemmas_read, all_lemmas_read, CountsLemmas}
use Rattle.proof_cert.proofs.ReadTrees.{lemmas_front}
use Rattle.proof_cert.proofs.read.read_lemmas.Given as goal

abbrev pub invariant-loop-alloc : goal.invariant-loop-alloc
invariant-loop-alloc l = record {
  read : all_lemmas_read (left_of l.fn.reading.source l.fn.reading.nodes l.fn.reading.listed) ≡ lemmas_front (map (lemma_of l.fn.reading.source.size) l.lemmas.items) (lemmas_read (65536 - length l.lemmas.items) (left_of l.reading.source l.reading.nodes l.reading.listed));
  counted : CountsLemmas l.fn.reading.nodes l.fn.reading.listed (map (lemma_of l.fn.reading.source.size) l.lemmas.items) l.reading.nodes l.reading.listed;
  size : l.reading.source.size ≡ l.fn.reading.source.size;
}

abbrev pub decreases-loop-alloc : goal.decreases-loop-alloc
decreases-loop-alloc l = 65536 - length l.lemmas.items
