use Rattle.gtp_core.specs.Private.Taking.{IsUnderWay, bounded}
use Rattle.gtp_core.proofs.run.serve_lines.Given as goal

abbrev pub invariant-loop-ending : goal.invariant-loop-ending
invariant-loop-ending g l =
    IsUnderWay (g.R.Read.remaining l.initial.reader) (bounded l.input (g.R.Read.remaining l.reader)) (g.W.Write.contents l.initial.writer) (g.W.Write.contents l.writer) l.session

abbrev pub decreases-loop-ending : goal.decreases-loop-ending
decreases-loop-ending g l = l.input.room
