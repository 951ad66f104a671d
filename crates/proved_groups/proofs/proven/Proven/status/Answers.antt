use Rattle.std.proofs.Common.{sym, subst, refl, inr, codes}
use Rattle.proved_groups.specs.Proven.{SaysStatus}
use Rattle.proved_groups.proofs.proven.Proven.status.Goals as goal

pub returns-in-Dead : goal.returns-in-Dead
returns-in-Dead c = subst (λ a. SaysStatus a (codes "dead")) (sym c.in-Dead.is) (inr (refl, c.in-Dead.field-0.dead))
