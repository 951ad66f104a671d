use Rattle.go_chains.proofs.Common.{◌≡◌, ◌⊎◌, ◌*◌, ◌<◌, inl, inr, ℕ, refl, sym, ◌∙◌, ap, subst, arith, Empty, cell_at, side_of, IsSettled}
use Rattle.go_chains.proofs.Changing.{stays_on}
use Rattle.go_chains.proofs.change.remove_changed.Goals as goal

pub changed-preserved : goal.changed-preserved
changed-preserved c =
    let n = side_of c.args.colouring.now in
    let now = c.changed.colouring in
    let wanted = c.args.wanted.now in
    let i = c.changed.number in
    let on : i < n * n = omega (arith, c.changed-test.true, c.area-in-changed.ensures.value, ap (λ (m : ℕ). m * m) c.size-size.ensures.value) in
    record {
      side = c.changed.invariant.side;
      settled = c.changed.invariant.settled;
      rest = stays_on n now now wanted i c.next_difference-following.result (λ q q_on. inr refl) (inl (c.changed.invariant.settled.chains.empties i on c.if-heads-number.false)) c.changed.invariant.rest
          (λ p later low. ap (λ d. cell_at d p) (sym c.colouring-in-changed.ensures) ∙ c.next_difference-following.ensures.same p later low);
      few = omega (arith, c.changed.invariant.few, c.next_difference-following.ensures.later);
    }

pub changed-preserved-then-heads-number : goal.changed-preserved-then-heads-number
changed-preserved-then-heads-number c =
    let n = side_of c.args.colouring.now in
    let now = c.changed.colouring in
    let after = c.take_off.new.colouring in
    let wanted = c.args.wanted.now in
    let i = c.changed.number in
    let side = c.changed.invariant.side in
    let emptier : (q : ℕ) → q < n * n → (cell_at after q ≡ Empty) ⊎ (cell_at after q ≡ cell_at now q) =
    subst (λ (m : ℕ). (q : ℕ) → q < m * m → (cell_at after q ≡ Empty) ⊎ (cell_at after q ≡ cell_at now q)) side c.take_off.ensures.rest in
    record {
      side = c.take_off.ensures.size ∙ side;
      settled = subst (λ (m : ℕ). IsSettled m after c.take_off.new.heads c.take_off.new.next c.take_off.new.counts) side c.take_off.ensures.settled;
      rest = stays_on n now after wanted i c.next_difference-following.result emptier (inl c.take_off.ensures.here) c.changed.invariant.rest
          (λ p later low. ap (λ d. cell_at d p) (sym c.colouring-in-changed.ensures) ∙ c.next_difference-following.ensures.same p later low);
      few = omega (arith, c.changed.invariant.few, c.next_difference-following.ensures.later);
    }
