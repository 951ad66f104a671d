use Rattle.safe_groups.proofs.Common.{◌≡◌, sym, ◌∙◌, ap, ◌<◌, ◌*◌, ◌⊎◌, inl, inr, subst, arith, ℕ, IsTrue, cell_at, own, side_of, number_of, area_of, holds_place, Place, IsSafeAt, IsOfChain}
use Rattle.safe_groups.proofs.Spacing.{safe_more}
use Rattle.safe_groups.proofs.ground.Ground.all_safe.Goals as goal

pub loop-number-preserved : goal.loop-number-preserved
loop-number-preserved c =
    let g = c.args.self.now in let a = area_of g in let s = c.args.state.now in let n = side_of g.cells in let number = c.loop-number.number in let board = c.args.stones.now in
    let size : c.size-size.result ≡ n = c.size-size.ensures.value ∙ c.requires.state.side in
    let on : number < n * n = omega (arith, c.loop-number-test.true, c.area-number-end.ensures.value, ap (λ m. m * m) size) in
    let at : number_of (side_of board) c.point_at-point.result ≡ number = ap (λ m. number_of m c.point_at-point.result) (c.requires.stones_side ∙ sym size) ∙ c.point_at-point.ensures.number_back in
    let more : (q : Place) → IsTrue (holds_place c.add_chain.new.set q) → IsTrue (holds_place c.loop-number.safe q) ⊎ IsOfChain n board number q =
    subst (λ k. (q : Place) → IsTrue (holds_place c.add_chain.new.set q) → IsTrue (holds_place c.loop-number.safe q) ⊎ IsOfChain n board k q) at
    (subst (λ m. (q : Place) → IsTrue (holds_place c.add_chain.new.set q) → IsTrue (holds_place c.loop-number.safe q) ⊎ IsOfChain m board (number_of (side_of board) c.point_at-point.result) q) c.requires.stones_side c.add_chain.ensures) in (
      (λ p low is.
          let split : (p < number) ⊎ (p ≡ number) = grind (arith, low) in
          elim split [
            | inl less ↦ c.loop-number.invariant.0 p less is
            | inr here ↦ subst (λ q. IsSafeAt a s q) (sym here) (c.is_safe_at.ensures c.if-not-is_safe_at.false (subst (λ q. cell_at s q ≡ own a) here is))
          ]),
      safe_more a s board number c.loop-number.safe c.add_chain.new.set c.requires.stones on (c.is_safe_at.ensures c.if-not-is_safe_at.false) c.loop-number.invariant.1 more,
    )
