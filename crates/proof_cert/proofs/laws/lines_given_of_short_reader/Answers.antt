use Rattle.proof_cert.specs.declared.spelling.Spelling.TheVariants.{Short}
use Rattle.proof_cert.proofs.Streams.{lines_given_by}
use Rattle.proof_cert.proofs.laws.lines_given_of_short_reader.Goals as goal

pub returns : goal.returns
returns c = lines_given_by Short
