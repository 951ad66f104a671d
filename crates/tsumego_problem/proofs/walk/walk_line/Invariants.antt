use Rattle.tsumego_problem.proofs.Common.{◌≡◌, Some, tree_count, main_line, history_limit, walk_of, walk_to_mark}
use Rattle.tsumego_problem.proofs.walk.walk_line.Given as goal

abbrev pub invariant-loop-next : goal.invariant-loop-next
invariant-loop-next l =
    (l.played.size ≡ l.size)
    × (walk_to_mark (Some history_limit) l.size l.first (main_line l.part) (walk_of l.played l.mover)
    ≡ walk_to_mark (Some history_limit) l.size 0 (main_line l.tree) (walk_of l.initial.played l.initial.mover))

abbrev pub decreases-loop-next : goal.decreases-loop-next
decreases-loop-next l = tree_count l.part
