use Rattle.std.proofs.Common.{◌≡◌, ◌++◌, map}
use Rattle.go_points.specs.Sgf.{sgf_text}
use Rattle.record_marks.proofs.stones.letters_of.Given as goal

abbrev pub invariant-loop-point : goal.invariant-loop-point
invariant-loop-point l =
    (goal.iterator-loop-point).can_next l.point-iterator
    × (goal.iterator-loop-point).is_finite l.point-iterator
    × (l.values.items ++ map sgf_text l.point-iterator ≡ map sgf_text l.fn.set)
