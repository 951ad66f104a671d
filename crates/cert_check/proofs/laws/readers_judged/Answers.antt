use Rattle.cert_check.proofs.Taken.{readers_judged}
use Rattle.cert_check.proofs.laws.readers_judged.Goals as goal

pub returns : goal.returns
returns c = readers_judged c.lines_given_of_reader.ensures
