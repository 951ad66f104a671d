use Rattle.record_marks.specs.Asked.{IsMarkedFor}
use Rattle.record_tools.proofs.Outputs.{bare, whole}
use Rattle.record_tools.proofs.program.output_marked.Goals as goal

pub returns-then-is_bare : goal.returns-then-is_bare
returns-then-is_bare g c =
    bare (IsMarkedFor c.args.wanted) c.args.wanted.node c.args.bytes.now c.in-Ok.tree c.in-Ok-marked_record.marked.tree c.in-Ok._end c.in-Ok-marked_record.marked.place
    c.in-Ok.ensures.found.0 c.in-Ok-marked_record.ensures.place c.in-Ok-marked_record.ensures.marked
    c.in-Ok-marked_record.marked.problem c.in-Ok-marked_record.ensures.problem c.args.is_bare c.if-is_bare.true c.output_bare.result c.output_bare.ensures

pub returns-in-Ok-marked_record : goal.returns-in-Ok-marked_record
returns-in-Ok-marked_record g c =
    whole (IsMarkedFor c.args.wanted) c.args.wanted.node c.args.bytes.now c.in-Ok.tree c.in-Ok-marked_record.marked.tree c.in-Ok._end c.in-Ok-marked_record.marked.place
    c.in-Ok.ensures.found.0 c.in-Ok-marked_record.ensures.place c.in-Ok-marked_record.ensures.marked c.args.is_bare c.if-is_bare.false
