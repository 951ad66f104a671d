use Rattle.std.proofs.Common.{IfSome, subst}
use Rattle.proved_groups.specs.Dead.{IsTakenNow}
use Rattle.proved_groups.proofs.Dying.{lost_by}
use Rattle.proved_groups.proofs.dead.accepted.Goals as goal

pub invariant_of-result : goal.invariant_of-result
invariant_of-result c =
    let q = c.args.problem in
    let taken : IsTakenNow q c.in-Some.supposed = subst (λ o. IfSome o (λ supposed. IsTakenNow q supposed)) c.in-Some.is c.in_ok-supposed.ensures in
    record { dead = ∣ lost_by q c.in-Some.supposed (c.is_owners_turn.ensures.mover c.if-not-is_owners_turn.false) (c.is_owners_turn.ensures.passes c.if-not-is_owners_turn.false) taken ∣₁ }
