use Rattle.sgf_text.proofs.Common.{◌≡◌, drop, are_distinct}
use Rattle.sgf_text.proofs.well_formed.are_distinct.Given as goal

abbrev pub invariant-loop-at : goal.invariant-loop-at
invariant-loop-at l = are_distinct (drop l.at l.properties) ≡ are_distinct l.properties
