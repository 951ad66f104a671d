use Rattle.pass_alive.proofs.Common.{side_of, number_of, these, HasMet, IsBesidePoint, IsMetOrWall}
use Rattle.pass_alive.proofs.Members.{AllBeside}
use Rattle.pass_alive.proofs.spread.meet_around.Given as goal

abbrev pub invariant-loop-neighbour : goal.invariant-loop-neighbour
invariant-loop-neighbour l =
    HasMet (IsBesidePoint (side_of l.board) l.colour l.board (number_of (side_of l.board) l.fn.point)) l.initial.area l.initial.left l.area l.left
    × AllBeside (side_of l.board) (IsMetOrWall (side_of l.board) l.colour l.board (these (side_of l.board) l.stones) l.area) l.neighbour-items l.neighbour-index
