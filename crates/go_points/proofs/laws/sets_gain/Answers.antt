use Rattle.go_points.proofs.Membership.{sets_gain as law}
use Rattle.go_points.proofs.laws.sets_gain.Goals as goal

pub returns : goal.returns
returns c = law
