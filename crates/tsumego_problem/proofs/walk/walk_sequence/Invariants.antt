use Rattle.tsumego_problem.proofs.Common.{◌≡◌, ◌+◌, Some, main_line, line_below, history_limit, walk_of, walk_to_mark}
use Rattle.tsumego_problem.proofs.Walking.{left_of}
use Rattle.tsumego_problem.proofs.walk.walk_sequence.Given as goal

abbrev pub invariant-loop-place : goal.invariant-loop-place
invariant-loop-place l =
    (l.played.size ≡ l.size)
    × (walk_to_mark (Some history_limit) l.size (l.first + l.place) (left_of l.fn.part.nodes (line_below l.fn.part.children) l.place) (walk_of l.played l.mover)
    ≡ walk_to_mark (Some history_limit) l.size l.first (main_line l.fn.part) (walk_of l.initial.played l.initial.mover))
