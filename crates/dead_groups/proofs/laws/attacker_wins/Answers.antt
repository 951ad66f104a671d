use Rattle.dead_groups.proofs.Deaths.{attacker_wins as law}
use Rattle.dead_groups.proofs.laws.attacker_wins.Goals as goal

pub returns : goal.returns
returns c = law
