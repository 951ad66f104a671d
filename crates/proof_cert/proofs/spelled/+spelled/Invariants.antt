use Rattle.proof_cert.proofs.Common.{◌≡◌, drop, list_all, branch_lines, is_spelled, replies_of}
use Rattle.proof_cert.proofs.spelled.+spelled.Given as goal

abbrev pub invariant-are_spelled_replies-loop-turn : goal.invariant-are_spelled_replies-loop-turn
invariant-are_spelled_replies-loop-turn l = list_all (is_spelled l.size) (branch_lines (replies_of l.size (drop l.turn-index l.replies))) ≡ list_all (is_spelled l.size) (branch_lines (replies_of l.size l.replies))
