use Rattle.std.proofs.Common.{◌≡◌, ◌++◌, string_bytes}
use denote.Text.{Utf8}
use denote.Shadow.{shadow}
use Rattle.group_status.specs.Names.{names_after, names_text}
use Rattle.group_status.proofs.names.point_names.Given as goal

abbrev pub invariant-loop-point : goal.invariant-loop-point
invariant-loop-point l =
    (goal.iterator-loop-point).can_next l.point-iterator
    × (goal.iterator-loop-point).is_finite l.point-iterator
    × shadow (Utf8 l.between)
    × (string_bytes l.names ++ names_after l.between l.size l.point-iterator ≡ names_text l.size l.fn.points)
