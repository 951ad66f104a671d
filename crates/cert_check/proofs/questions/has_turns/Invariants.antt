use Rattle.cert_check.proofs.Common.{◌≡◌, ◌+◌, length, turns_due, due_replies}
use Rattle.cert_check.proofs.questions.has_turns.Given as goal

abbrev pub invariant-loop-taken : goal.invariant-loop-taken
invariant-loop-taken l = length (turns_due l.state.state l.left.next) + l.taken ≡ length (due_replies l.state.state)
