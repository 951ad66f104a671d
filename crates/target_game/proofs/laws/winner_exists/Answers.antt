use Rattle.target_game.proofs.Ending.{winner_exists as law}
use Rattle.target_game.proofs.laws.winner_exists.Goals as goal

pub returns : goal.returns
returns c = law
