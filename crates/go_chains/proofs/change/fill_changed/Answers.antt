use Rattle.go_chains.proofs.Common.{◌≡◌, ◌≢◌, ◌+◌, ◌*◌, ◌<◌, ◌≤◌, inl, inr, ℕ, List, slice_index, sym, ◌∙◌, ap, subst, arith, cases_eq, ext_get_or, Cell, Empty, cell_at, side_of, nowhere, IsSettled}
use Rattle.go_chains.proofs.Changing.{stays_filled, filled_more, filled_on}
use Rattle.go_chains.proofs.change.fill_changed.Goals as goal

-- the first difference, in a colouring that equals another
differs_there : (n r : ℕ) (first last wanted : List Cell) → first ≡ last → side_of last ≡ n → (r < side_of first * side_of first → cell_at first r ≢ cell_at wanted r) → r < n * n → cell_at last r ≢ cell_at wanted r
differs_there n r first last wanted same side differs on = λ e. differs (subst (λ (m : ℕ). r < m * m) (sym (ap side_of same ∙ side)) on) (ap (λ d. cell_at d r) same ∙ e)

pub fill_cell-requires-clause-free : goal.fill_cell-requires-clause-free
fill_cell-requires-clause-free c =
    let n = side_of c.args.colouring.now in
    let i = c.changed.number in
    let on : i < n * n = omega (arith, c.changed-test.true, c.area-in-changed.ensures.value, ap (λ (m : ℕ). m * m) c.size-size.ensures.value) in
    elim (cases_eq (slice_index c.changed.heads i) nowhere) [
      | inl none ↦ none
      | inr has ↦ elim (c.changed.invariant.rest i on) [
        | inl free ↦ absurd (c.changed.invariant.settled.chains.stones i on has free)
        | inr same ↦ absurd (c.changed.invariant.differs on same)
      ]
    ]

pub changed-preserved : goal.changed-preserved
changed-preserved c =
    let n = side_of c.args.colouring.now in
    let now = c.changed.colouring in
    let after = c.fill_cell.new.colouring in
    let wanted = c.args.wanted.now in
    let i = c.changed.number in
    let side = c.changed.invariant.side in
    let here : cell_at after i ≡ cell_at wanted i = c.fill_cell.ensures.here ∙ c.cell.ensures in
    let size : side_of after ≡ n = c.fill_cell.ensures.size ∙ side in
    record {
      side = size;
      settled = subst (λ (m : ℕ). IsSettled m after c.fill_cell.new.heads c.fill_cell.new.next c.fill_cell.new.counts) side c.fill_cell.ensures.settled;
      rest = stays_filled n now after wanted i here c.fill_cell.ensures.others c.changed.invariant.rest;
      filled = filled_on after wanted (i + 1) c.next_difference-number-in-changed.result (filled_more now after wanted i here c.fill_cell.ensures.others c.changed.invariant.filled)
          (λ p later low. ap (λ d. cell_at d p) (sym c.colouring-in-changed.ensures) ∙ c.next_difference-number-in-changed.ensures.same p later low);
      differs = differs_there n c.next_difference-number-in-changed.result c.colouring-in-changed.result.now after wanted c.colouring-in-changed.ensures size c.next_difference-number-in-changed.ensures.differs;
    }

pub returns-clause-value : goal.returns-clause-value
returns-clause-value c =
    let n = side_of c.args.colouring.now in
    let now = c.changed.colouring in
    let wanted = c.args.wanted.now in
    let done : n * n ≤ c.changed.number = omega (arith, c.changed-test.false, c.area-in-changed.ensures.value, ap (λ (m : ℕ). m * m) c.size-size.ensures.value) in
    let wide = c.size.ensures.colouring.full ∙ ap (λ (m : ℕ). m * m) c.requires.same_size in
    let full = c.size-2.ensures.colouring.full ∙ ap (λ (m : ℕ). m * m) c.changed.invariant.side in
    ext_get_or Empty now wanted (full ∙ sym wide) (λ p h. c.changed.invariant.filled p (omega (arith, h, full, done)))
