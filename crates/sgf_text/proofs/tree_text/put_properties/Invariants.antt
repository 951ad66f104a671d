use Rattle.sgf_text.proofs.Common.{take, flat_map, HasPut, property_text}
use Rattle.sgf_text.proofs.tree_text.put_properties.Given as goal

abbrev pub invariant-loop-property : goal.invariant-loop-property
invariant-loop-property g l = HasPut (g.W.Write.contents l.initial.writer) (g.W.Write.contents l.writer) l.initial.pending l.pending (flat_map property_text (take l.property-index l.properties))
