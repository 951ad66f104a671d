use Rattle.go_points.proofs.Texts.{readings_have_their_texts as law}
use Rattle.go_points.proofs.laws.readings_have_their_texts.Goals as goal

pub returns : goal.returns
returns c = law
