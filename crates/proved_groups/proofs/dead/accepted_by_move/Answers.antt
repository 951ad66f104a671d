use Rattle.std.proofs.Common.{IfSome, subst}
use Rattle.proved_groups.specs.Dead.{IsTakenNow}
use Rattle.proved_groups.proofs.Dying.{lost_by_move}
use Rattle.proved_groups.proofs.dead.accepted_by_move.Goals as goal

pub invariant_of-result : goal.invariant_of-result
invariant_of-result c =
    let q = c.args.problem in
    let taken : IsTakenNow q c.in-Some.supposed = subst (λ o. IfSome o (λ supposed. IsTakenNow q supposed)) c.in-Some.is c.in_ok-supposed.ensures in
    record { dead = ∣ lost_by_move q c.in-Some.supposed (c.is_killers_turn.ensures.mover c.if-not-is_killers_turn.false) (c.is_killers_turn.ensures.passes c.if-not-is_killers_turn.false) taken ∣₁ }
