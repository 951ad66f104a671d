use Rattle.tsumego.proofs.Telling.{gtp_is_true}
use Rattle.tsumego.proofs.laws.gtp_is_true.Goals as goal

pub returns : goal.returns
returns c = gtp_is_true
