use Rattle.byte_writer.proofs.TakenLemmas.{then_put}
use Rattle.sgf_text.proofs.tree_text.put_value.Goals as goal

pub returns : goal.returns
returns g c = then_put c.put.ensures (then_put (rw c.as_slice.ensures at c.put-2.ensures) c.put-3.ensures)
