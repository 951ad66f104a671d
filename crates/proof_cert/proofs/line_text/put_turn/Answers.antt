use Rattle.byte_writer.proofs.TakenLemmas.{then_put}
use Rattle.proof_cert.proofs.line_text.put_turn.Goals as goal

pub returns : goal.returns
returns g c fits = then_put (then_put c.put.ensures (c.put_vertex.ensures fits)) c.put-2.ensures
