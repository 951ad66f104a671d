use Rattle.safe_groups.proofs.Never.{attacker_never_wins as law}
use Rattle.safe_groups.proofs.laws.attacker_never_wins.Goals as goal

pub returns : goal.returns
returns c = law
