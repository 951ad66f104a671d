use Rattle.cert_check.proofs.Common.{not, List, Cell, is_known, AllAfter}
use Rattle.cert_check.proofs.body_state.none_known.Given as goal

abbrev pub invariant-loop-index : goal.invariant-loop-index
invariant-loop-index l = AllAfter (λ (c : List Cell). not (is_known l.state.state c)) l.list l.index
