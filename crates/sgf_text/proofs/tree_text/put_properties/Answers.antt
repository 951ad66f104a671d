use Rattle.sgf_text.proofs.Common.{arith, [], property_text, next_put}
use Rattle.sgf_text.proofs.tree_text.put_properties.Goals as goal

pub loop-property-preserved : goal.loop-property-preserved
loop-property-preserved g c = next_put property_text c.args.properties.now c.loop-property.property-index c.property-item.result (omega arith) c.property-item.is [] c.loop-property.invariant c.put_property.ensures
