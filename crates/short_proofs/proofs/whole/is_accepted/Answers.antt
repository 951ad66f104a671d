use Rattle.std.proofs.Common.{inr}
use Rattle.short_proofs.proofs.whole.is_accepted.Goals as goal

pub returns-in-Ok : goal.returns-in-Ok
returns-in-Ok c = λ is. inr (c.in-Ok.field-0.targets, c.in-Ok.field-0.supposed, c.in-Ok.ensures.targets, c.in-Ok.ensures.dead)
