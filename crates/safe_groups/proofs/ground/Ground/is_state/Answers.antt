use Rattle.safe_groups.proofs.Common.{◌≡◌, sym, ◌∙◌, ap, ◌<◌, ◌*◌, ◌⊎◌, inl, inr, subst, arith, eqb-true, not_false, side_of, area_of, IsWalledAt}
use Rattle.safe_groups.proofs.Grounds.{state_by}
use Rattle.safe_groups.proofs.ground.Ground.is_state.Goals as goal

pub loop-number-preserved : goal.loop-number-preserved
loop-number-preserved c = λ p low.
    let split : (p < c.loop-number.number) ⊎ (p ≡ c.loop-number.number) = grind (arith, low) in
    elim split [
      | inl less ↦ c.loop-number.invariant p less
      | inr here ↦ subst (IsWalledAt (area_of c.args.self.now) c.args.state.now) (sym here) (c.is_walled_at.ensures c.if-not-is_walled_at.false)
    ]

pub returns : goal.returns
returns c = λ yes.
    let g = c.args.self.now in
    let side : side_of c.args.state.now ≡ side_of g.cells =
    sym c.size.ensures.value ∙ eqb-true c.size.result c.size-size.result (not_false _ (sym c.if-ne.ensures)) ∙ c.size-size.ensures.value in
    state_by g c.args.state.now side c.size.ensures.colouring.full
    (λ p on. c.loop-number.invariant p (omega (arith, on, c.loop-number-test.false, c.area-number-end.ensures.value, ap (λ m. m * m) c.size-size.ensures.value))) c.size-size.ensures.full
