use Rattle.solution_tree.proofs.Common.{◌≡◌, List, length, Ply, legal_turns, turns_due, Tells, missing}
use Rattle.solution_tree.proofs.questions.missing_reply.Given as goal

abbrev pub invariant-loop-turn : goal.invariant-loop-turn
invariant-loop-turn l = (given : List Ply) → Tells l.state.state.game.size l.given given → missing given (turns_due l.state.state l.turns_left.next) ≡ missing given (legal_turns l.state.state)

abbrev pub decreases-loop-turn : goal.decreases-loop-turn
decreases-loop-turn l = length (turns_due l.state.state l.turns_left.next)
