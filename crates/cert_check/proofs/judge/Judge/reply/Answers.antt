use Rattle.cert_check.proofs.Common.{rules}
use Rattle.cert_check.proofs.Replies.{reply_refused}
use Rattle.cert_check.proofs.judge.Judge.reply.Goals as goal

pub returns-then-ne : goal.returns-then-ne
returns-then-ne c =
    let refused = reply_refused c.args.self.now.state.state c.args.due c.in-Some.turn c.requires.ready.made.1 (search rules) in
    search rules
