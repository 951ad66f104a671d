use Rattle.std.proofs.Common.{◌≡◌, take}
use Rattle.tsumego_problem.proofs.read.history_of.Given as goal

-- those so far have been taken over
abbrev pub invariant-loop-place : goal.invariant-loop-place
invariant-loop-place g l = l.history.items ≡ take l.place (g.S.Seen.content l.seen)
