use Rattle.byte_writer.proofs.TakenLemmas.{part_written}
use Rattle.sgf_text.proofs.tree_text.write_tree.Goals as goal

pub returns-clause-cut : goal.returns-clause-cut
returns-clause-cut g c = part_written (rw c.new-pending.ensures at c.put_tree.ensures) _ c.finish.result c.finish.ensures
