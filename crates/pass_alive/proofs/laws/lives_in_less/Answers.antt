use Rattle.pass_alive.proofs.Never.{lives_in_less as law}
use Rattle.pass_alive.proofs.laws.lives_in_less.Goals as goal

pub returns : goal.returns
returns c = law
