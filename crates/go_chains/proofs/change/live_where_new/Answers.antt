use Rattle.go_chains.proofs.Common.{◌*◌, ◌<◌, inl, inr, ℕ, sym, ◌∙◌, ap, arith, cell_at, side_of}
use Rattle.go_chains.proofs.Changed.{LivesAt, lives_on}
use Rattle.go_chains.proofs.change.live_where_new.Goals as goal
use Rattle.go_chains.proofs.change.live_where_new.Goals.{else-heads-number-via-then-heads-number+else-not-live_around, else-heads-number-via-else-heads-number}

pub changed-preserved : goal.changed-preserved
changed-preserved c =
    let now = c.args.colouring.now in
    let n = side_of now in
    let i = c.changed.number in
    let on : i < n * n = omega (arith, c.changed-test.true, c.area-in-changed.ensures.value, ap (λ (m : ℕ). m * m) c.size-size.ensures.value) in
    let here : LivesAt n c.args.before.now now i = elim c.else-heads-number.branch [
      | else-heads-number-via-then-heads-number+else-not-live_around w ↦ inr (inr (w.live_around.ensures w.if-not-live_around.false))
      | else-heads-number-via-else-heads-number w ↦ inr (inl (c.requires.tells.empties i on w.if-heads-number.false))
    ] in
    lives_on n c.args.before.now now i c.next_difference-number-in-changed.result c.changed.invariant here
    (λ p later low. ap (λ d. cell_at d p) (sym c.colouring-in-changed.ensures) ∙ c.next_difference-number-in-changed.ensures.same p later low)
