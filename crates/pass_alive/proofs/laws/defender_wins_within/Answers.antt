use Rattle.pass_alive.proofs.Telling.{defender_wins_within as law}
use Rattle.pass_alive.proofs.laws.defender_wins_within.Goals as goal

pub returns : goal.returns
returns c = law
