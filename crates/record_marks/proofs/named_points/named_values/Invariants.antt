use Rattle.std.proofs.Common.{◌≤◌, length}
use Rattle.record_marks.proofs.Names.{NamesLeft}
use Rattle.record_marks.proofs.named_points.named_values.Given as goal

abbrev pub invariant-loop-at : goal.invariant-loop-at
invariant-loop-at l = NamesLeft l.size l.rest l.values.items l.text × (length l.rest ≤ length l.text)

abbrev pub decreases-loop-at : goal.decreases-loop-at
decreases-loop-at l = length l.rest
