use Rattle.proof_cert.specs.declared.spelling.Spelling.TheVariants.{Ordinary}
use Rattle.proof_cert.proofs.Streams.{lines_given_by}
use Rattle.proof_cert.proofs.laws.lines_given_of_reader.Goals as goal

pub returns : goal.returns
returns c = lines_given_by Ordinary
