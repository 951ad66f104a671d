use Rattle.std.proofs.Common.{◌≡◌, ◌≤◌, length}
use Rattle.solution_tree.specs.Questions.{back}
use Rattle.solution_tree.proofs.questions.take_back.Given as goal

abbrev pub invariant-loop-left : goal.invariant-loop-left
invariant-loop-left l = (l.left ≤ length l.state.before) × (back l.left l.state ≡ back l.turns l.initial.state)

abbrev pub decreases-loop-left : goal.decreases-loop-left
decreases-loop-left l = l.left
