use Rattle.cert_check.proofs.Common.{not, List, Cell, has_occurred, AllAfter}
use Rattle.cert_check.proofs.listed.none_stands_on.Given as goal

abbrev pub invariant-loop-colouring : goal.invariant-loop-colouring
invariant-loop-colouring l = AllAfter (λ (c : List Cell). not (has_occurred l.list c)) l.few l.colouring-index
