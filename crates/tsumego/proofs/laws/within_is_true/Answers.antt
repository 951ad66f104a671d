use Rattle.tsumego.proofs.Headline.{within_is_true}
use Rattle.tsumego.proofs.laws.within_is_true.Goals as goal

pub returns : goal.returns
returns c = within_is_true
