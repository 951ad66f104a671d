use Rattle.go_points.proofs.Common.{◌≡◌, ℕ, ◌*◌, ◌<◌, false, has_bit}
use Rattle.go_points.proofs.point_set.PointSet.first.Given as goal

abbrev pub invariant-loop-index : goal.invariant-loop-index
invariant-loop-index l = (i : ℕ) → i < l.index * 64 → has_bit l.self-inside.words i ≡ false
