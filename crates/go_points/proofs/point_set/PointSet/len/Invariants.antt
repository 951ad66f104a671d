use Rattle.std.proofs.Common.{◌≡◌, ◌*◌}
use Rattle.go_points.proofs.Counting.{bits_below}
use Rattle.go_points.proofs.point_set.PointSet.len.Given as goal

abbrev pub invariant-loop-index : goal.invariant-loop-index
invariant-loop-index l = l.count ≡ bits_below l.self-inside.words (l.index * 64)
