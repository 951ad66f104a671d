use Rattle.proof_cert.proofs.Giving.{held_lines_are_the_text}
use Rattle.proof_cert.proofs.laws.held_lines_are_the_text.Goals as goal

pub returns : goal.returns
returns c = held_lines_are_the_text
