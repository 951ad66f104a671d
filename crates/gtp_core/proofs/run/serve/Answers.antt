use Rattle.std.proofs.Common.{refl}
use Rattle.gtp_core.proofs.Running.{no_memory_part}
use Rattle.gtp_core.proofs.run.serve.Goals as goal

pub returns-clause-cut : goal.returns-clause-cut
returns-clause-cut g c =
    no_memory_part c.args.session.now c.args.line.now (g.W.Write.contents c.args.writer.now) (g.W.Write.contents c.send-in-Err.new.writer) _ c.in-Err.ensures.needed refl c.in-Err-send-3.ensures.cut
