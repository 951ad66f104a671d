use Rattle.go_points.proofs.Membership.{sets_lose as law}
use Rattle.go_points.proofs.laws.sets_lose.Goals as goal

pub returns : goal.returns
returns c = law
