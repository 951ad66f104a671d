use Rattle.go_points.proofs.Letters.{letters_read_back as law}
use Rattle.go_points.proofs.laws.letters_read_back.Goals as goal

pub returns : goal.returns
returns c = law
