use Rattle.safe_groups.proofs.Never.{attacker_never_wins_after_move as law}
use Rattle.safe_groups.proofs.laws.attacker_never_wins_after_move.Goals as goal

pub returns : goal.returns
returns c = law
