use Rattle.std.proofs.Common.{rules}
use Rattle.tsumego_replies.proofs.Front.{white_more}
use Rattle.tsumego_replies.proofs.input.read_past_white.Goals as goal

pub loop-preserved : goal.loop-preserved
loop-preserved g c =
    let had = c.loop.invariant in
    white_more (g.R.Read.remaining c.args.reader.now) (g.R.Read.remaining c.loop.reader) (g.R.Read.remaining c.read.new.self) had.0 c.read.new.buf c.in-Ok.field-0 c.loop.counter
    had.1 had.2 had.3 c.in-Ok.ensures.bytes.0 (search rules) (search rules) (search rules)
