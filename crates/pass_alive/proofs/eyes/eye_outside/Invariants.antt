use Rattle.pass_alive.proofs.Common.{side_of, these, areas_in, AreNoEyes, IsNoEyePlace}
use Rattle.pass_alive.proofs.Members.{AllBut}
use Rattle.pass_alive.proofs.eyes.eye_outside.Given as goal

abbrev pub invariant-loop-point : goal.invariant-loop-point
invariant-loop-point l =
    (goal.iterator-loop-point).can_next l.point-iterator
    × (goal.iterator-loop-point).is_finite l.point-iterator
    × AllBut (IsNoEyePlace (side_of l.board) (areas_in l.fn.colour l.board) l.stones l.chain l.known) l.sides l.point-iterator
    × AreNoEyes (side_of l.board) (areas_in l.fn.colour l.board) (these (side_of l.board) l.stones) (these (side_of l.board) l.chain) l.failed
