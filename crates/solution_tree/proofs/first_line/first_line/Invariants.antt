use Rattle.solution_tree.proofs.Common.{◌≡◌, forest_of, forest_count, first_line, follows}
use Rattle.solution_tree.proofs.first_line.first_line.Given as goal

abbrev pub invariant-loop-end : goal.invariant-loop-end
invariant-loop-end l =
    (l.state.state.game.size ≡ l.initial.state.state.game.size)
    × (first_line l.last l.state.state (follows l.line l.behind) ≡ first_line l.number l.initial.state.state (follows l.nodes l.children))

abbrev pub decreases-loop-end : goal.decreases-loop-end
decreases-loop-end l = forest_count (forest_of l.behind)
