use Rattle.proof_cert.proofs.Reading.{behind_is}
use Rattle.proof_cert.proofs.line.behind_word.Goals as goal

pub returns : goal.returns
returns c = behind_is c.args.word.now c.args.text.now c.strip_prefix.result c.strip_prefix.ensures.cases
