-- Whether each stone reaches empty, from the counts.
use Rattle.go_chains.proofs.Common.{◌≡◌, ◌≢◌, ℕ, ◌*◌, ◌<◌, ◌≤◌, ◌⊎◌, inl, inr, Bool, true, false, not, ◌&&◌, nat_eq, eqb-true, eq-eqb, None, is_none, List, slice_index, refl, sym, ◌∙◌, ap, arith, cases_eq, MAX_POINTS, Cell, Empty, points, cell_at, reaches, lacks_liberty, first_without_liberty, same_cell_false, points_member, none_found, not_false, first_none, lacks_empty, reaches_path, nowhere, liberty_count, IsSettled, IsBoard, LacksLiberties, TellsLiberties}
use Rattle.go_chains.proofs.Counts.{counted_reaches, reaches_counted}
use Rattle.go_chains.proofs.Boards.{heads_joined}
use Rattle.go_chains.proofs.Playing.{board_of}

module _ (n : ℕ) (c : List Cell) (heads next counts : List ℕ) (room : n * n ≤ MAX_POINTS) (settled : IsSettled n c heads next counts) where
  lacks_is : (p : ℕ) → cell_at c p ≢ Empty → lacks_liberty n c p ≡ not (reaches n c p Empty)
  lacks_is p stone = ap (λ b. not b && not (reaches n c p Empty)) (same_cell_false (cell_at c p) Empty stone)

  pub settled_tells : TellsLiberties n c heads counts
  settled_tells = record {
    empties = settled.chains.empties;
    within = settled.chains.within;
    tells = tells;
  }
    where
      tells : (p : ℕ) → p < n * n → slice_index heads p ≢ nowhere → lacks_liberty n c p ≡ nat_eq (slice_index counts (slice_index heads p)) 0
      tells p on has = lacks_is p (settled.chains.stones p on has) ∙ go (reaches n c p Empty) refl (nat_eq (slice_index counts (slice_index heads p)) 0) refl
        where
          right : slice_index counts (slice_index heads p) ≡ liberty_count n c heads (slice_index heads p)
          right = settled.counted.right (slice_index heads p) (settled.chains.within p on has) has (settled.chains.own p on has)

          go : (r : Bool) → reaches n c p Empty ≡ r → (b : Bool) → nat_eq (slice_index counts (slice_index heads p)) 0 ≡ b → not r ≡ b
          go true e false f = refl
          go false e true f = refl
          go true e true f =
              let some = reaches_counted n c heads p settled.closed ((reaches_path n c p Empty).0 e) in
              let none : slice_index counts (slice_index heads p) ≡ 0 = eqb-true _ 0 f in
              absurd (omega (arith, some, none, right))
          go false e false f =
              let split : (slice_index counts (slice_index heads p) ≡ 0) ⊎ (0 < slice_index counts (slice_index heads p)) = grind arith in
              elim split [
                | inl none ↦ absurd (cc (f, eq-eqb (slice_index counts (slice_index heads p)) 0 none))
                | inr some ↦ (let r = counted_reaches n c heads p (settled.chains.stones p on has) (λ q q_on same. heads_joined n c heads next p q settled.chains on q_on has same) (omega (arith, some, right)) in
                    absurd (cc (e, (reaches_path n c p Empty).1 r)))
              ]

  -- where every stone reaches empty, each chain has a liberty
  pub settled_board : first_without_liberty n c ≡ None → IsBoard n c heads next counts
  unfolding first_without_liberty
  settled_board none = board_of n c heads next counts room settled lacks_none
    where
      lacks_none : (h : ℕ) → LacksLiberties n c heads h → ⊥
      lacks_none h lacking =
          let has : slice_index heads h ≢ nowhere = λ e. omega (arith, lacking.on, room, sym lacking.own ∙ e) in
          let stone = settled.chains.stones h lacking.on has in
          let lacks = none_found (lacks_liberty n c) h (points n) (ap is_none none) (points_member n h lacking.on) in
          let r = (reaches_path n c h Empty).0 (not_false _ (sym (lacks_is h stone) ∙ lacks)) in
          let some = reaches_counted n c heads h settled.closed r in
          let same : liberty_count n c heads (slice_index heads h) ≡ liberty_count n c heads h = ap (liberty_count n c heads) lacking.own in
          omega (arith, some, same, lacking.none)

pub board_none : (n : ℕ) (c : List Cell) (heads next counts : List ℕ) → n * n ≤ MAX_POINTS → IsBoard n c heads next counts → first_without_liberty n c ≡ None
board_none n c heads next counts room board = first_none n c (λ p on. go p on)
  where
    tells : TellsLiberties n c heads counts
    tells = settled_tells n c heads next counts room board.settled

    some : (x : ℕ) → 0 < x → nat_eq x 0 ≡ false
    some x more = off (nat_eq x 0) refl
      where
        off : (b : Bool) → nat_eq x 0 ≡ b → b ≡ false
        off true e = absurd (let none : x ≡ 0 = eqb-true x 0 e in omega (arith, none, more))
        off false e = refl

    go : (p : ℕ) → p < n * n → lacks_liberty n c p ≡ false
    go p on =
        let split : (slice_index heads p ≡ nowhere) ⊎ (slice_index heads p ≢ nowhere) = cases_eq (slice_index heads p) nowhere in
        elim split [
          | inl none ↦ lacks_empty n c p (tells.empties p on none)
          | inr has ↦ (let head = slice_index heads p in
              tells.tells p on has ∙ some (slice_index counts head) (board.has_liberties head (tells.within p on has) (board.settled.chains.own p on has)))
        ]
