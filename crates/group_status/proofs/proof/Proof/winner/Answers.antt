use Rattle.std.proofs.Common.{sym, subst}
use Rattle.group_status.specs.Lines.{SaysWhoWins}
use Rattle.group_status.proofs.proof.Proof.winner.Goals as goal

pub returns-in-Shape : goal.returns-in-Shape
returns-in-Shape c = subst (λ p. SaysWhoWins p c.owner.result) (sym c.in-Shape.is) (c.owner.ensures.value, c.owner.ensures.lives)
