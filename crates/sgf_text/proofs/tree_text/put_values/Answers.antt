use Rattle.sgf_text.proofs.Common.{arith, [], value_text, next_put}
use Rattle.sgf_text.proofs.tree_text.put_values.Goals as goal

pub loop-value-preserved : goal.loop-value-preserved
loop-value-preserved g c = next_put value_text c.args.values.now c.loop-value.value-index c.value-item.result (omega arith) c.value-item.is [] c.loop-value.invariant c.put_value.ensures
