use Rattle.byte_writer.proofs.TakenLemmas.{then_put}
use Rattle.proof_cert.proofs.line_text.put_coloured.Goals as goal

pub returns : goal.returns
returns g c = then_put (then_put c.put.ensures c.put_cells.ensures) c.put-2.ensures
