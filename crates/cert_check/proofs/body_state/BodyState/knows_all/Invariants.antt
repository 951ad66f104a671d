use Rattle.cert_check.proofs.Common.{is_known, AllAfter}
use Rattle.cert_check.proofs.body_state.BodyState.knows_all.Given as goal

abbrev pub invariant-loop-colouring : goal.invariant-loop-colouring
invariant-loop-colouring l = AllAfter (is_known l.self.state) l.colourings l.colouring-index
