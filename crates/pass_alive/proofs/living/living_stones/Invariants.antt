use Rattle.pass_alive.proofs.Common.{◌+◌, ◌*◌, length, MAX_POINTS, side_of}
use Rattle.pass_alive.specs.Private.Areas.{AreLeft, is_due}
use Rattle.pass_alive.proofs.living.living_stones.Given as goal

abbrev pub invariant-loop-point : goal.invariant-loop-point
invariant-loop-point l = AreLeft (side_of l.board) l.fn.colour l.region l.board l.stones (is_due l.due l.late)

abbrev pub decreases-loop-point : goal.decreases-loop-point
decreases-loop-point l = length l.stones * ((MAX_POINTS + 1) * (MAX_POINTS + 1)) + (length l.due * (MAX_POINTS + 1) + length l.late)
