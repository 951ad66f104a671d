use Rattle.pass_alive.proofs.Common.{◌+◌, ◌-◌, ◌*◌, length, MAX_POINTS, side_of, number_of, these, areas_in, AreNoEyes}
use Rattle.pass_alive.proofs.Spreading.{Spreading}
use Rattle.pass_alive.proofs.eyes.eye_at.Given as goal

abbrev pub invariant-loop-next : goal.invariant-loop-next
invariant-loop-next l =
    Spreading (side_of l.board) l.colour l.board (areas_in l.colour l.board) (these (side_of l.board) l.stones) (these (side_of l.board) l.chain) (number_of (side_of l.board) l.fn.point) l.area l.left
    × AreNoEyes (side_of l.board) (areas_in l.colour l.board) (these (side_of l.board) l.stones) (these (side_of l.board) l.chain) l.failed

abbrev pub decreases-loop-next : goal.decreases-loop-next
decreases-loop-next l = 2 * (MAX_POINTS - length l.area) + length l.left
