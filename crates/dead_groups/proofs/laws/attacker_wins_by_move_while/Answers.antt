use Rattle.dead_groups.proofs.Deaths.{attacker_wins_by_move_while as law}
use Rattle.dead_groups.proofs.laws.attacker_wins_by_move_while.Goals as goal

pub returns : goal.returns
returns c = law
