use Rattle.std.proofs.Common.{refl}
use Rattle.tsumego_replies.proofs.Phrases.{why_given}
use Rattle.tsumego_replies.proofs.claim.rejected.Goals as goal

pub returns-in-Ok : goal.returns-in-Ok
returns-in-Ok c =
    let given = why_given c.args.size c.args.reject.now.why c.in_default.not-Memory c.in_default.not-Read in
    (given.0, given.1, refl, c.in-Ok.ensures given.0 given.1)
