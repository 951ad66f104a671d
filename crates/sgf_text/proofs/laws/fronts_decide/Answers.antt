use Rattle.sgf_text.proofs.Fronts.{fronts_decide}
use Rattle.sgf_text.proofs.laws.fronts_decide.Goals as goal

pub returns : goal.returns
returns c = fronts_decide
