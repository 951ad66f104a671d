use Rattle.record_marks.specs.Supposed.{IsMarkedBy}
use Rattle.record_tools.proofs.Outputs.{bare, whole}
use Rattle.record_tools.proofs.program.output_supposed.Goals as goal

pub returns-then-is_bare : goal.returns-then-is_bare
returns-then-is_bare g c =
    bare (IsMarkedBy c.args.wanted) c.args.wanted.node c.args.bytes.now c.in-Ok.tree c.in-Ok-supposed_record.made.tree c.in-Ok._end c.in-Ok-supposed_record.made.place
    c.in-Ok.ensures.found.0 c.in-Ok-supposed_record.ensures.place (c.in-Ok-supposed_record.made.black, c.in-Ok-supposed_record.made.white, c.in-Ok-supposed_record.ensures.marked)
    c.in-Ok-supposed_record.made.problem c.in-Ok-supposed_record.ensures.problem c.args.is_bare c.if-is_bare.true c.output_bare.result c.output_bare.ensures

pub returns-in-Ok-supposed_record : goal.returns-in-Ok-supposed_record
returns-in-Ok-supposed_record g c =
    whole (IsMarkedBy c.args.wanted) c.args.wanted.node c.args.bytes.now c.in-Ok.tree c.in-Ok-supposed_record.made.tree c.in-Ok._end c.in-Ok-supposed_record.made.place
    c.in-Ok.ensures.found.0 c.in-Ok-supposed_record.ensures.place (c.in-Ok-supposed_record.made.black, c.in-Ok-supposed_record.made.white, c.in-Ok-supposed_record.ensures.marked) c.args.is_bare c.if-is_bare.false
