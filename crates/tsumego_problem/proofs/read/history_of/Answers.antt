use Rattle.std.proofs.Common.{◌∙◌}
use Rattle.tsumego_problem.proofs.Taking.{taken_more}
use Rattle.tsumego_problem.proofs.read.history_of.Goals as goal

pub loop-place-preserved : goal.loop-place-preserved
loop-place-preserved g c = c.in_ok-push.ensures.items ∙ taken_more (g.S.Seen.content c.args.seen.now) c.loop-place.history.items c.loop-place.place c.at.result.now c.loop-place.invariant c.at.ensures
