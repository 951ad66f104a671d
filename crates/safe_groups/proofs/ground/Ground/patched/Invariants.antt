use Rattle.safe_groups.proofs.Common.{area_of, part_cell, side_of}
use Rattle.safe_groups.proofs.Grounds.{MadeSoFar}
use Rattle.safe_groups.proofs.ground.Ground.patched.Given as goal

abbrev pub invariant-loop-number : goal.invariant-loop-number
invariant-loop-number l = MadeSoFar (side_of l.self.cells) (part_cell (area_of l.self) l.inside l.outside) l.made l.number
