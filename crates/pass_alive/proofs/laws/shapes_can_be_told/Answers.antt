use Rattle.pass_alive.proofs.Telling.{shapes_can_be_told as law}
use Rattle.pass_alive.proofs.laws.shapes_can_be_told.Goals as goal

pub returns : goal.returns
returns c = law
