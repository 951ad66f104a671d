use Rattle.tsumego.proofs.Headline.{solve_is_true}
use Rattle.tsumego.proofs.laws.solve_is_true.Goals as goal

pub returns : goal.returns
returns c = solve_is_true
