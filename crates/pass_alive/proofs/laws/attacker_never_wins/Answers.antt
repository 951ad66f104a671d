use Rattle.pass_alive.proofs.Never.{attacker_never_wins as law}
use Rattle.pass_alive.proofs.laws.attacker_never_wins.Goals as goal

pub returns : goal.returns
returns c = law
