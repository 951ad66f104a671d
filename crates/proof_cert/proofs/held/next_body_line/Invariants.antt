use Rattle.proof_cert.proofs.Common.{◌≡◌, length, lines_left}
use Rattle.proof_cert.proofs.held.next_body_line.Given as goal

abbrev pub invariant-loop-task : goal.invariant-loop-task
invariant-loop-task l = lines_left l.size l.tasks.items ≡ lines_left l.size l.initial.tasks.items

abbrev pub decreases-loop-task : goal.decreases-loop-task
decreases-loop-task l = length l.tasks.items
