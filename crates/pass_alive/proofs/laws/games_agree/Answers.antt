use Rattle.pass_alive.proofs.Regions.{games_agree as law}
use Rattle.pass_alive.proofs.laws.games_agree.Goals as goal

pub returns : goal.returns
returns c = law
