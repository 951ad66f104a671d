use Rattle.proof_cert.proofs.Common.{drop, branch_lines, replies_of, lines_text, SoFar}
use Rattle.proof_cert.proofs.Spellings.{AreSpelled}
use Rattle.proof_cert.proofs.claim_text.+put.Given as goal

abbrev pub invariant-put_replies-loop-turn : goal.invariant-put_replies-loop-turn
invariant-put_replies-loop-turn g l =
    AreSpelled l.size (branch_lines (replies_of l.size l.replies))
    → AreSpelled l.size (branch_lines (replies_of l.size (drop l.turn-index l.replies)))
    × SoFar (g.W.Write.contents l.initial.writer) (g.W.Write.contents l.writer) l.initial.pending l.pending (lines_text l.size (branch_lines (replies_of l.size l.replies))) (lines_text l.size (branch_lines (replies_of l.size (drop l.turn-index l.replies))))
