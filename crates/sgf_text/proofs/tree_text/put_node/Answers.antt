use Rattle.byte_writer.proofs.TakenLemmas.{then_put}
use Rattle.sgf_text.proofs.tree_text.put_node.Goals as goal

pub returns : goal.returns
returns g c = then_put c.put.ensures (rw c.as_slice.ensures.properties at c.put_properties.ensures)
