use Rattle.proof_cert.proofs.Common.{◌≡◌, drop, map, list_all, had_spelled, version_number, is_spelled}
use Rattle.proof_cert.proofs.spelled.are_spelled_had.Given as goal

abbrev pub invariant-loop-colouring : goal.invariant-loop-colouring
invariant-loop-colouring l = list_all (is_spelled l.size) (map (had_spelled (version_number l.version)) (drop l.colouring-index l.had)) ≡ list_all (is_spelled l.size) (map (had_spelled (version_number l.version)) l.had)
