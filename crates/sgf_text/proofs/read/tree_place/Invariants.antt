use Rattle.sgf_text.proofs.Common.{◌≡◌, drop, tree_place}
use Rattle.sgf_text.proofs.PlaceScan.{scan}
use Rattle.sgf_text.proofs.read.tree_place.Given as goal

abbrev pub invariant-loop-at : goal.invariant-loop-at
invariant-loop-at l = scan l.last l.at (drop l.at l.text) ≡ tree_place l.text
