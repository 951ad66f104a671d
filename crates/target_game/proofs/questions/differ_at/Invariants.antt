use Rattle.target_game.proofs.Common.{◌-◌, ◌*◌, side_of}
use Rattle.target_game.proofs.Standing.{SameSoFar}
use Rattle.target_game.proofs.questions.differ_at.Given as goal

abbrev pub invariant-changed : goal.invariant-changed
invariant-changed l = SameSoFar (side_of l.colouring) l.colouring l.other l.points l.number

abbrev pub decreases-changed : goal.decreases-changed
decreases-changed l = side_of l.colouring * side_of l.colouring - l.number
