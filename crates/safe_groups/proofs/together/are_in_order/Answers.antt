use Rattle.safe_groups.proofs.Common.{◌≡◌, sym, ◌<◌, ◌*◌, ℕ, ◌⊎◌, inl, inr, subst, arith, ground_at, IsApart, IsInOrder}
use Rattle.safe_groups.proofs.Ordering.{in_order_by}
use Rattle.safe_groups.proofs.together.are_in_order.Goals as goal

pub loop-place-preserved : goal.loop-place-preserved
loop-place-preserved c = λ i low.
    let gs = c.args.grounds.now in
    let split : (i < c.loop-place.place) ⊎ (i ≡ c.loop-place.place) = grind (arith, low) in
    elim split [
      | inl less ↦ c.loop-place.invariant i less
      | inr here ↦ subst (λ k. IsInOrder gs c.args.size k × ((j : ℕ) → j < k → IsApart (ground_at gs k) (ground_at gs j))) (sym here)
          (c.is_in_order.ensures c.if-not-is_in_order.false, c.is_apart_from_earlier.ensures c.if-not-is_apart_from_earlier.false)
    ]

pub returns : goal.returns
returns c = λ yes. in_order_by c.args.grounds.now c.args.size c.requires.sized
    (λ i low. (c.loop-place.invariant i (omega (arith, low, c.loop-place-test.false))).0)
    (λ i j low less. (c.loop-place.invariant i (omega (arith, low, c.loop-place-test.false))).1 j less)
