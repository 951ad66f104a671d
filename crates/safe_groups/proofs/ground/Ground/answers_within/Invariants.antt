use Rattle.safe_groups.proofs.Common.{◌<◌, ℕ, IsTrue, map, side_of, number_of, holds_point, area_of}
use Rattle.safe_groups.proofs.ground.Ground.answers_within.Given as goal

abbrev pub invariant-loop-number : goal.invariant-loop-number
invariant-loop-number l = (p : ℕ) → p < l.number → IsTrue ((area_of l.self).answers p) → IsTrue (holds_point (map (number_of (side_of l.self.cells)) l.region) p)
