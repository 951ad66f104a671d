use Rattle.safe_groups.proofs.Common.{◌≡◌, sym, ◌<◌, ◌⊎◌, inl, inr, subst, arith, IsInOrderAt}
use Rattle.safe_groups.proofs.together.is_in_order.Goals as goal

pub loop-number-preserved : goal.loop-number-preserved
loop-number-preserved c = λ p low.
    let split : (p < c.loop-number.number) ⊎ (p ≡ c.loop-number.number) = grind (arith, low) in
    elim split [
      | inl less ↦ c.loop-number.invariant p less
      | inr here ↦ subst (IsInOrderAt c.args.grounds.now c.args.place) (sym here) (c.is_in_order_at.ensures c.if-not-is_in_order_at.false)
    ]
