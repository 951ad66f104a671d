use Rattle.go_points.proofs.Texts.{texts_read_back as law}
use Rattle.go_points.proofs.laws.texts_read_back.Goals as goal

pub returns : goal.returns
returns c = law
