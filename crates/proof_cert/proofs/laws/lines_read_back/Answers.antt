use Rattle.proof_cert.proofs.Texts.{line_of-written}
use Rattle.proof_cert.proofs.laws.lines_read_back.Goals as goal

pub returns : goal.returns
returns c = line_of-written
