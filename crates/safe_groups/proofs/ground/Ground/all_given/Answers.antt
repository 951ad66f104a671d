use Rattle.safe_groups.proofs.Common.{◌≡◌, sym, ◌<◌, ◌⊎◌, inl, inr, subst, arith, IsTrue, cell_at, own, area_of, IsGivenAt}
use Rattle.safe_groups.proofs.ground.Ground.all_given.Goals as goal

pub loop-number-preserved : goal.loop-number-preserved
loop-number-preserved c = λ p low is.
    let split : (p < c.loop-number.number) ⊎ (p ≡ c.loop-number.number) = grind (arith, low) in
    elim split [
      | inl less ↦ c.loop-number.invariant p less is
      | inr here ↦ subst (λ q. IsGivenAt (area_of c.args.self.now) c.args.state.now q) (sym here) (c.is_given_at.ensures c.if-not-is_given_at.false (subst (λ q. IsTrue ((area_of c.args.self.now).gives q)) here is))
    ]
