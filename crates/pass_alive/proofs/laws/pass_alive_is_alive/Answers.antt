use Rattle.pass_alive.proofs.Never.{pass_alive_is_alive as law}
use Rattle.pass_alive.proofs.laws.pass_alive_is_alive.Goals as goal

pub returns : goal.returns
returns c = law
