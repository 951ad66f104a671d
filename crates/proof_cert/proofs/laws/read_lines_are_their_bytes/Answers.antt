use Rattle.proof_cert.proofs.Texts.{line_of-is}
use Rattle.proof_cert.proofs.laws.read_lines_are_their_bytes.Goals as goal

pub returns : goal.returns
returns c = line_of-is
