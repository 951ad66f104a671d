use Rattle.dead_groups.proofs.Deaths.{answered_is_dead as law}
use Rattle.dead_groups.proofs.laws.answered_is_dead.Goals as goal

pub returns : goal.returns
returns c = law
