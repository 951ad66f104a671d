use Rattle.safe_groups.proofs.Never.{defender_wins as law}
use Rattle.safe_groups.proofs.laws.defender_wins.Goals as goal

pub returns : goal.returns
returns c = law
