use Rattle.target_game.proofs.Statuses.{one_status as law}
use Rattle.target_game.proofs.laws.one_status.Goals as goal

pub returns : goal.returns
returns c = law
