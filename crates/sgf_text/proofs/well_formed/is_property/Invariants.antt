use Rattle.sgf_text.proofs.Common.{◌≡◌, drop, list_all, is_value}
use Rattle.sgf_text.proofs.well_formed.is_property.Given as goal

abbrev pub invariant-loop-value : goal.invariant-loop-value
invariant-loop-value l = list_all is_value (drop l.value-index l.values) ≡ list_all is_value l.values
