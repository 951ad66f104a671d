use Rattle.byte_writer.proofs.TakenLemmas.{then_put}
use Rattle.proof_cert.proofs.line_text.put_number.Goals as goal

pub returns : goal.returns
returns g c = then_put (then_put c.put.ensures c.put_decimal.ensures) c.put-2.ensures
