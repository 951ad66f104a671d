use Rattle.proof_cert.proofs.Common.{◌≡◌, drop, map, Some, list_all, not_line, is_spelled}
use Rattle.proof_cert.proofs.spelled.are_spelled_colourings.Given as goal

abbrev pub invariant-loop-colouring : goal.invariant-loop-colouring
invariant-loop-colouring l = list_all (is_spelled l.size) (map (λ c. Some (not_line c)) (drop l.colouring-index l.listed)) ≡ list_all (is_spelled l.size) (map (λ c. Some (not_line c)) l.listed)
