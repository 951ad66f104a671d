use Rattle.std.proofs.Common.{sym, subst}
use Rattle.proved_groups.specs.Proven.{Dies}
use Rattle.proved_groups.proofs.proven.ProvenByMove.is_alive.Goals as goal

pub returns-in-Dead-clause-dies : goal.returns-in-Dead-clause-dies
returns-in-Dead-clause-dies c = λ _. subst Dies (sym c.in-Dead.is) c.in-Dead.field-0.dead
