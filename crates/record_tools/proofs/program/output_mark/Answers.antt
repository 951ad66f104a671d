use Rattle.std.proofs.Common.{sym, subst}
use Rattle.std.specs.Prelude.{IfOk}
use Rattle.record_tools.specs.declared.words.Zone.{Zone}
use Rattle.record_tools.specs.Outputs.{AnswersRecord, IsMarkedIn, IsWritten}
use Rattle.record_tools.proofs.program.output_mark.Goals as goal

pub returns-in-Points : goal.returns-in-Points
returns-in-Points g c =
    subst (λ (zone : Zone). IfOk c.output_marked-in-Points.result (AnswersRecord (IsWritten (IsMarkedIn zone c.args.wanted) c.args.wanted.node c.args.is_bare c.args.bytes.now)))
    (sym c.in-Points.is) c.output_marked-in-Points.ensures

pub returns-in-Count : goal.returns-in-Count
returns-in-Count g c =
    subst (λ (zone : Zone). IfOk c.output_supposed.result (AnswersRecord (IsWritten (IsMarkedIn zone c.args.wanted) c.args.wanted.node c.args.is_bare c.args.bytes.now)))
    (sym c.in-Count.is) c.output_supposed.ensures
