use Rattle.byte_writer.proofs.TakenLemmas.{then_put}
use Rattle.sgf_text.proofs.tree_text.put_property.Goals as goal

pub returns : goal.returns
returns g c = then_put (rw c.as_slice.ensures at c.put.ensures) (rw c.as_slice-2.ensures at c.put_values.ensures)
