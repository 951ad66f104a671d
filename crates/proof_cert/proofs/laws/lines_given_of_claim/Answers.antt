use Rattle.proof_cert.proofs.Giving.{lines_given_of_claim}
use Rattle.proof_cert.proofs.laws.lines_given_of_claim.Goals as goal

pub returns : goal.returns
returns c = lines_given_of_claim
