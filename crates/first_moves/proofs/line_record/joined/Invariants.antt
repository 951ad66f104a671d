use Rattle.std.proofs.Common.{length}
use Rattle.first_moves.proofs.line_record.joined.Given as goal

abbrev pub decreases-loop-segment : goal.decreases-loop-segment
decreases-loop-segment l = length l.segments.items
