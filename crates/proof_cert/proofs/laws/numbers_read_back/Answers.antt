use Rattle.proof_cert.proofs.Words.{number_of-decimal}
use Rattle.proof_cert.proofs.laws.numbers_read_back.Goals as goal

pub returns : goal.returns
returns c = number_of-decimal
