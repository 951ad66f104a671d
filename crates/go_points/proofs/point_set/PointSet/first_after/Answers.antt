use Rattle.go_points.proofs.Common.{subst, IsFirstAfter}
use Rattle.go_points.proofs.Onward.{first_place_after}
use Rattle.go_points.proofs.point_set.PointSet.first_after.Goals as goal

pub returns : goal.returns
returns c =
    subst (λ p. IsFirstAfter c.args.self.now p c.first_at.result) c.number_of.ensures.value
    (first_place_after c.args.self.now c.number_of.result c.first_at.result c.first_at.ensures.set.within c.first_at.ensures.value)
