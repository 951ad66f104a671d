use Rattle.proof_cert.proofs.Words.{number_of-is}
use Rattle.proof_cert.proofs.laws.read_numbers_are_their_digits.Goals as goal

pub returns : goal.returns
returns c = number_of-is
