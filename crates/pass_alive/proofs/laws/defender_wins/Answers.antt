use Rattle.pass_alive.proofs.Never.{defender_wins as law}
use Rattle.pass_alive.proofs.laws.defender_wins.Goals as goal

pub returns : goal.returns
returns c = law
