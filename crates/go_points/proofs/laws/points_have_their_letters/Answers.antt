use Rattle.go_points.proofs.Letters.{points_have_their_letters as law}
use Rattle.go_points.proofs.laws.points_have_their_letters.Goals as goal

pub returns : goal.returns
returns c = law
