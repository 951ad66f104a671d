use Rattle.target_game.proofs.Moving.{defender_may_move_first as law}
use Rattle.target_game.proofs.laws.defender_may_move_first.Goals as goal

pub returns : goal.returns
returns c = law
