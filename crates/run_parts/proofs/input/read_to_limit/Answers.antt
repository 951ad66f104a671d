use Rattle.std.proofs.Common.{rules}
use Rattle.run_parts.proofs.Front.{asked_more}
use Rattle.run_parts.proofs.input.read_to_limit.Goals as goal

pub returns-in_err-extend_from_slice-in-Ok-clause-asked : goal.returns-in_err-extend_from_slice-in-Ok-clause-asked
returns-in_err-extend_from_slice-in-Ok-clause-asked g c =
    let had = c.loop-block.invariant in
    asked_more (g.R.Read.remaining c.args.reader.now) (g.R.Read.remaining c.loop-block.reader) (g.R.Read.remaining c.read.new.self) had.0 c.args.into.now.items c.loop-block.into.items c.read.new.buf c.in-Ok.count c.args.limit
    had.2 had.1 c.in-Ok.ensures.bytes.0 (search rules)
