use Rattle.proof_cert.proofs.Common.{drop, map, had_spelled, version_number, lines_text, SoFar}
use Rattle.proof_cert.proofs.claim_text.put_all_had.Given as goal

abbrev pub invariant-loop-colouring : goal.invariant-loop-colouring
invariant-loop-colouring g l = SoFar (g.W.Write.contents l.initial.writer) (g.W.Write.contents l.writer) l.initial.pending l.pending (lines_text l.size (map (had_spelled (version_number l.version)) l.had)) (lines_text l.size (map (had_spelled (version_number l.version)) (drop l.colouring-index l.had)))
