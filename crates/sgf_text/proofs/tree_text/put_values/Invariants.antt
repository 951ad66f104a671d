use Rattle.sgf_text.proofs.Common.{take, flat_map, HasPut, value_text}
use Rattle.sgf_text.proofs.tree_text.put_values.Given as goal

abbrev pub invariant-loop-value : goal.invariant-loop-value
invariant-loop-value g l = HasPut (g.W.Write.contents l.initial.writer) (g.W.Write.contents l.writer) l.initial.pending l.pending (flat_map value_text (take l.value-index l.values))
