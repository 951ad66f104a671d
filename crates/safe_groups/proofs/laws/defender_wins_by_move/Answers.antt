use Rattle.safe_groups.proofs.Never.{defender_wins_by_move as law}
use Rattle.safe_groups.proofs.laws.defender_wins_by_move.Goals as goal

pub returns : goal.returns
returns c = law
