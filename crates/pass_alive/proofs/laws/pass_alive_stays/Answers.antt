use Rattle.pass_alive.proofs.Standing.{pass_alive_stays as law}
use Rattle.pass_alive.proofs.laws.pass_alive_stays.Goals as goal

pub returns : goal.returns
returns c = law
