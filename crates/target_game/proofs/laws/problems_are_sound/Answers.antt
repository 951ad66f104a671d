use Rattle.target_game.proofs.Facts.{problems_are_sound as law}
use Rattle.target_game.proofs.laws.problems_are_sound.Goals as goal

pub returns : goal.returns
returns c = law
