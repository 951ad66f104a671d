use Rattle.sgf_text.proofs.Common.{◌≡◌, drop, is_value_after, is_value}
use Rattle.sgf_text.proofs.well_formed.is_value.Given as goal

abbrev pub invariant-loop-byte : goal.invariant-loop-byte
invariant-loop-byte l = is_value_after l.escaped (drop l.byte-index l.value) ≡ is_value l.value
