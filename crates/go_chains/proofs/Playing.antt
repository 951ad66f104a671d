-- What a move leaves, from its three steps.
use Rattle.go_chains.proofs.Common.{◌≡◌, ◌≢◌, ℕ, ◌*◌, ◌<◌, ◌≤◌, ◌⊎◌, inl, inr, List, length, slice_index, set, refl, sym, ◌∙◌, ap, subst, arith, cases_eq, get_or-set_same, get_or-set_other, MAX_POINTS, Colour, Cell, Empty, Stone, opponent_of, same_cell, cell_at, Reaches, clear, opponent_ne, adjacent_on_board, one_or_other, nowhere, touches, liberty_count, IsSettled, IsBoard, LacksLiberties, LeavesLiberties, KeepsOthers, clear_none}
use Rattle.go_points.proofs.Clearing.{cleared_reaches}
use Rattle.go_chains.proofs.Counts.{touches_same, touches_to, count_filled, reaches_counted}
use Rattle.go_chains.proofs.Leaving.{head_holds, stone_reaches}

same_stone : (k j : Colour) (a : Cell) → a ≡ Stone k → a ≡ Stone j → k ≡ j
same_stone k j a is was = cc (is, was)

-- a board on which each chain has a liberty
pub board_of : (n : ℕ) (c : List Cell) (heads next counts : List ℕ) → n * n ≤ MAX_POINTS → IsSettled n c heads next counts → ((h : ℕ) → LacksLiberties n c heads h → ⊥) → IsBoard n c heads next counts
board_of n c heads next counts room settled none = record {
  settled = settled;
  has_liberties = λ h on own.
      let right = settled.counted.right h on (λ e. omega (arith, on, room, e)) own in
      let split : (liberty_count n c heads h ≡ 0) ⊎ (0 < liberty_count n c heads h) = grind arith in
      elim split [
        | inl lacking ↦ absurd (none h (record { on = on; own = own; none = lacking }))
        | inr some ↦ omega (arith, right, some)
      ];
}

-- the stone is put down: c becomes d
module _ (n : ℕ) (c d : List Cell) (heads next counts more next' counts' : List ℕ) (k : Colour) (p : ℕ) (room : n * n ≤ MAX_POINTS) (whole : length c ≡ n * n) (on : p < n * n) (free : slice_index heads p ≡ nowhere)
    (board : IsBoard n c heads next counts) (put : d ≡ set c p (Stone k)) (others : KeepsOthers n p heads more) (settled : IsSettled n d more next' counts') where
  here : cell_at d p ≡ Stone k
  here = ap (λ l. cell_at l p) put ∙ get_or-set_same c p (Stone k) Empty (omega (arith, on, whole))

  -- a chain without liberty that the stone does not belong to stands beside it
  lacking_beside : (h : ℕ) → LacksLiberties n d more h → slice_index more p ≢ h → 0 < touches n more h p
  lacking_beside h lacking away =
      let same = others h lacking.on lacking.own away in
      let change = count_filled n c d heads more h p on same.points (λ q ne. ap (λ l. cell_at l q) put ∙ get_or-set_other c p q (Stone k) Empty ne) (board.settled.chains.empties p on free) (ap (λ a. same_cell a Empty) here) in
      let some = board.has_liberties h lacking.on same.own in
      let right = board.settled.counted.right h lacking.on (λ e. omega (arith, lacking.on, room, e)) same.own in
      let kept = touches_same n heads more h p same.points in
      omega (arith, change, some, right, lacking.none, kept)

  -- a chain of the other colour among them
  pub captures_beside : (j : Colour) → j ≡ opponent_of k → (h : ℕ) → LacksLiberties n d more h → cell_at d h ≡ Stone j → 0 < touches n more h p
  captures_beside j other h lacking stone = lacking_beside h lacking (λ e. opponent_ne k (same_stone k (opponent_of k) (cell_at d h) (sym (head_holds n d more next' p h room settled.chains on lacking.on e) ∙ here) (stone ∙ ap Stone other)))

  -- the other colour is cleared: d becomes e
  module _ (e : List Cell) (last counts'' : List ℕ) (cleared : e ≡ clear n d (opponent_of k)) (left : LeavesLiberties n d more e last) (still : IsSettled n e last next' counts'') where
    own_colour : (h : ℕ) → LacksLiberties n e last h → cell_at e h ≡ Stone k
    own_colour h lacking = go (cell_at e h) refl
      where
        go : (a : Cell) → cell_at e h ≡ a → a ≡ Stone k
        go Empty is = absurd (still.chains.stones h lacking.on (λ f. omega (arith, lacking.on, room, sym lacking.own ∙ f)) is)
        go (Stone i) is = elim (one_or_other k i) [
          | inl own ↦ ap Stone own
          | inr other ↦ (let reaches : Reaches n e h Empty = subst (λ l. Reaches n l h Empty) (sym cleared) (cleared_reaches n d (opponent_of k) h (ap (λ l. cell_at l h) (sym cleared) ∙ is ∙ ap Stone other)) in
              let some = reaches_counted n e last h still.closed reaches in
              let same : liberty_count n e last (slice_index last h) ≡ liberty_count n e last h = ap (liberty_count n e last) lacking.own in
              absurd (omega (arith, some, same, lacking.none)))
        ]

    -- the chain of the stone is the only one that may have no liberty
    own_lacks : (h : ℕ) → LacksLiberties n e last h → slice_index last p ≡ h
    own_lacks h lacking =
        let was = left h lacking in
        elim (cases_eq (slice_index more p) h) [
          | inl same ↦ was.points p on same
          | inr away ↦ absurd (apart away was.lacking (sym was.cell ∙ own_colour h lacking))
        ]
      where
        apart : slice_index more p ≢ h → LacksLiberties n d more h → cell_at d h ≡ Stone k → ⊥
        apart away was stone =
            let found = touches_to n more h p (lacking_beside h was away) in
            let q_on = (adjacent_on_board n p found.0 found.1).1 in
            let holds = head_holds n d more next' found.0 h room settled.chains q_on was.on found.2 in
            away (settled.closed.same p found.0 found.1 (λ f. cc (here, f)) (holds ∙ stone ∙ sym here) ∙ found.2)

    -- its own chain is taken off if it has none: e becomes f
    module _ (f : List Cell) (final counts3 : List ℕ) (full : length f ≡ n * n) (end : IsSettled n f final next' counts3) (alike : clear n f k ≡ clear n e k) (left' : LeavesLiberties n e last f final)
        (passed : (h : ℕ) → LacksLiberties n f final h → cell_at f h ≡ Stone k → slice_index last p ≢ h) where
      none_lacks : (h : ℕ) → LacksLiberties n f final h → ⊥
      none_lacks h lacking =
          let was = left' h lacking in
          passed h lacking (was.cell ∙ own_colour h was.lacking) (own_lacks h was.lacking)

      pub move_ends : IsBoard n f final next' counts3 × (f ≡ clear n e k)
      move_ends = (
        board_of n f final next' counts3 room end none_lacks,
        sym (clear_none n f k full (λ q q_on stone. stone_reaches n f final next' counts3 q room end q_on (λ g. cc (g, stone)) (none_lacks (slice_index final q)))) ∙ alike,
      )
