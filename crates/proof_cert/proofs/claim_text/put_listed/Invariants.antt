use Rattle.proof_cert.proofs.Common.{drop, map, Some, not_line, lines_text, SoFar}
use Rattle.proof_cert.proofs.claim_text.put_listed.Given as goal

abbrev pub invariant-loop-colouring : goal.invariant-loop-colouring
invariant-loop-colouring g l = SoFar (g.W.Write.contents l.initial.writer) (g.W.Write.contents l.writer) l.initial.pending l.pending (lines_text l.size (map (λ d. Some (not_line d)) l.listed)) (lines_text l.size (map (λ d. Some (not_line d)) (drop l.colouring-index l.listed)))
