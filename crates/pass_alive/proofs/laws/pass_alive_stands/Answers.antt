use Rattle.pass_alive.proofs.Standing.{pass_alive_stands as law}
use Rattle.pass_alive.proofs.laws.pass_alive_stands.Goals as goal

pub returns : goal.returns
returns c = law
