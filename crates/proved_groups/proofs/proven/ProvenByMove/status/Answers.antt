use Rattle.std.proofs.Common.{sym, subst, refl, inr, codes}
use Rattle.proved_groups.specs.Proven.{SaysStatusAfter}
use Rattle.proved_groups.proofs.proven.ProvenByMove.status.Goals as goal

pub returns-in-Dead : goal.returns-in-Dead
returns-in-Dead c = subst (λ a. SaysStatusAfter a c.args.self.now.finding.first (codes "dead")) (sym c.in-Dead.is) (inr (refl, c.in-Dead.field-0.dead))
