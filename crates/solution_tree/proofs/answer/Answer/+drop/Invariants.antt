use Rattle.std.proofs.Common.{◌≤◌}
use Rattle.solution_tree.specs.declared.answer.Answer.{size-Answer}
use Rattle.solution_tree.proofs.answer.Answer.+drop.Given as goal

abbrev pub invariant-loop-self : goal.invariant-loop-self
invariant-loop-self l = size-Answer l.self ≤ size-Answer l.fn.self
