use Rattle.proof_cert.proofs.Words.{vertex_of-is}
use Rattle.proof_cert.proofs.laws.read_turns_are_their_letters.Goals as goal

pub returns : goal.returns
returns c = vertex_of-is
