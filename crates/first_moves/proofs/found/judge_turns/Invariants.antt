use Rattle.first_moves.proofs.Common.{length, legal_turns, turns_due, start}
use Rattle.first_moves.proofs.Judging.{JudgedBefore}
use Rattle.first_moves.proofs.found.judge_turns.Given as goal

abbrev pub invariant-loop-turn : goal.invariant-loop-turn
invariant-loop-turn g l = JudgedBefore l.problem (legal_turns (start l.problem)) (turns_due (start l.problem) l.turns_left.next) l.found.items

abbrev pub decreases-loop-turn : goal.decreases-loop-turn
decreases-loop-turn g l = length (turns_due (start l.problem) l.turns_left.next)
