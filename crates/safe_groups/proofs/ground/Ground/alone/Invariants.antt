use Rattle.safe_groups.proofs.Common.{area_of, side_of, alone_cell}
use Rattle.safe_groups.proofs.Grounds.{MadeSoFar}
use Rattle.safe_groups.proofs.ground.Ground.alone.Given as goal

abbrev pub invariant-loop-number : goal.invariant-loop-number
invariant-loop-number l = MadeSoFar (side_of l.self.cells) (alone_cell (area_of l.self) l.state) l.made l.number
