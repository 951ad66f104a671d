use Rattle.sgf_text.proofs.Common.{◌≡◌, drop, list_all, is_property}
use Rattle.sgf_text.proofs.well_formed.is_node.Given as goal

abbrev pub invariant-loop-property : goal.invariant-loop-property
invariant-loop-property l = list_all is_property (drop l.property-index l.properties) ≡ list_all is_property l.properties
