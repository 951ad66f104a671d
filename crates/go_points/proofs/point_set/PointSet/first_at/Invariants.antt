use Rattle.std.proofs.Common.{◌*◌}
use Rattle.go_points.proofs.Onward.{NoneFrom}
use Rattle.go_points.proofs.point_set.PointSet.first_at.Given as goal

abbrev pub invariant-loop-index : goal.invariant-loop-index
invariant-loop-index l = NoneFrom l.self-inside.words l.bit (l.index * 64)
