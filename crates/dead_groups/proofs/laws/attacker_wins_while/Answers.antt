use Rattle.dead_groups.proofs.Deaths.{attacker_wins_while as law}
use Rattle.dead_groups.proofs.laws.attacker_wins_while.Goals as goal

pub returns : goal.returns
returns c = law
