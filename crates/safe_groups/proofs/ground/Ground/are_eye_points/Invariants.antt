use Rattle.safe_groups.proofs.Spacing.{AreFound}
use Rattle.safe_groups.proofs.ground.Ground.are_eye_points.Given as goal

abbrev pub invariant-loop-point : goal.invariant-loop-point
invariant-loop-point l =
    (goal.iterator-loop-point).can_next l.point-iterator
    × (goal.iterator-loop-point).is_finite l.point-iterator
    × AreFound l.self l.space l.near l.avoided l.point-iterator
