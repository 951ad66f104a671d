use Rattle.std.proofs.Common.{refl}
use Rattle.tsumego_replies.proofs.Phrases.{node_why_given}
use Rattle.tsumego_replies.proofs.reply.node_rejected.Goals as goal

pub returns-in-Ok : goal.returns-in-Ok
returns-in-Ok c =
    let given = node_why_given c.args.size c.args.fault.now.why c.in_default.not-Memory in
    (given.0, given.1, refl, c.in-Ok.ensures given.0 given.1)
