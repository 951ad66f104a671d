use Rattle.solution_tree.proofs.Common.{◌≡◌, [], List, length, Ply, forest_of, nodes_of, turns_in, Tells}
use Rattle.solution_tree.proofs.questions.turns_of_trees.Given as goal

abbrev pub invariant-loop-child : goal.invariant-loop-child
invariant-loop-child l =
    (earlier : List Ply) × Tells l.size l.given earlier
    × (turns_in l.size earlier (nodes_of (forest_of l.left)) ≡ turns_in l.size [] (nodes_of (forest_of l.children)))

abbrev pub decreases-loop-child : goal.decreases-loop-child
decreases-loop-child l = length l.left
