use Rattle.go_points.proofs.Common.{subst, IsFirstFrom}
use Rattle.go_points.proofs.point_set.PointSet.first_from.Goals as goal

pub returns : goal.returns
returns c = subst (λ p. IsFirstFrom c.args.self.now p c.first_at.result) c.number_of.ensures.value c.first_at.ensures.value
