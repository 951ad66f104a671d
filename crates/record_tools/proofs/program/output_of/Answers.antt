use Rattle.std.proofs.Common.{refl}
use Rattle.record_tools.proofs.Outputs.{asked_for}
use Rattle.record_tools.proofs.program.output_of.Goals as goal

pub returns-in-Mark : goal.returns-in-Mark
returns-in-Mark g c =
    asked_for c.in-Mark.node c.in-Mark.targets c.in-Mark.zone c.in-Mark.mover c.in-Mark.is_bare c.args.bytes.now
    (record { node = c.in-Mark.node; targets = c.as_bytes.result; region = c.region_of.result; mover = c.in-Mark.mover }) c.args.request.now c.output_mark.result
    c.in-Mark.is (refl, c.as_bytes.ensures.value, c.region_of.ensures, refl) c.output_mark.ensures
