use Rattle.tsumego.proofs.Headline.{winner_is_true}
use Rattle.tsumego.proofs.laws.winner_is_true.Goals as goal

pub returns : goal.returns
returns c = winner_is_true
