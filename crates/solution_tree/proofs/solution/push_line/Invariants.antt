use Rattle.solution_tree.proofs.Common.{◌≤◌, rest_of, answer_of}
use Rattle.target_game.specs.Answers.{answer_size}
use Rattle.solution_tree.proofs.Writing.{Continues}
use Rattle.solution_tree.proofs.solution.push_line.Given as goal

abbrev pub invariant-loop-turn : goal.invariant-loop-turn
invariant-loop-turn l =
    Continues l.initial.nodes.items (rest_of l.size l.fn.mover (answer_of l.size l.answer)) l.nodes.items (rest_of l.size l.colour (answer_of l.size l.part))
    × (answer_size (answer_of l.size l.part) ≤ answer_size (answer_of l.size l.answer))

abbrev pub decreases-loop-turn : goal.decreases-loop-turn
decreases-loop-turn l = answer_size (answer_of l.size l.part)
