-- When a move keeps its stone and changes no other point, from the counts before it.
use Rattle.go_chains.proofs.Common.{◌≡◌, ◌≢◌, ℕ, ◌+◌, ◌*◌, ◌<◌, ◌≤◌, ◌⊎◌, inl, inr, ◌↔◌, Bool, true, false, not, ◌&&◌, IsTrue, nat_eq, eqb-true, eq-eqb, cond, nat_lt, ltb-true, List, [], ◌∷◌, length, slice_index, set, refl, sym, ◌∙◌, ap, subst, arith, list_any, cases_eq, get_or-set_same, get_or-set_other, get_or_past, MAX_POINTS, Colour, Cell, Empty, Stone, opponent_of, same_cell, adjacent, neighbours, cell_at, IsPath, Reaches, after_move, Member, and_left, and_right, and_both, or_cases, or_left, or_right, any_to, same_cell_eq, eq_same_cell, adjacent_on_board, adjacent_back, member_neighbours, neighbours_member, opponent_ne, one_or_other, IsWay, Joined, nowhere, touches, empties_beside, liberty_count, HasCircles, IsBoard, has_more, loses_last, lets_stay}
use Rattle.std.proofs.lemmas.Bool.{false_from_ne_true, lt-ltb}
use Rattle.go_points.specs.Grid.{differ_by_one, row_of, column_of}
use Rattle.go_points.proofs.Lists.{not_true, any_from}
use Rattle.go_points.proofs.Clearing.{EveryStoneReaches, on_or_off}
use Rattle.go_points.proofs.Quiet.{quiet_reaches}
use Rattle.go_chains.proofs.Joins.{joined_self, joined_on, joined_beside, reaches_beside}
use Rattle.go_chains.proofs.Counts.{in_member, is_head, touches_from, touches_to, count_from, count_to, count_filled}
use Rattle.go_chains.proofs.Totals.{total_same}
use Rattle.go_chains.proofs.Merging.{off}
use Rattle.go_chains.proofs.Boards.{heads_joined}
use Rattle.go_chains.proofs.Leaving.{head_holds}

differ_self : (i : ℕ) → differ_by_one i i ≡ true → ⊥
differ_self i h = elim (or_cases (nat_eq (i + 1) i) (nat_eq (i + 1) i) h) [
  | inl e ↦ (let same : i + 1 ≡ i = eqb-true (i + 1) i e in omega (arith, same))
  | inr e ↦ (let same : i + 1 ≡ i = eqb-true (i + 1) i e in omega (arith, same))
]

-- no point is adjacent to itself
pub beside_not_self : (n p x : ℕ) → adjacent n p x ≡ true → x ≢ p
beside_not_self n p x adj same =
    let self : adjacent n p p ≡ true = subst (λ z. adjacent n p z ≡ true) same adj in
    elim (or_cases (nat_eq (row_of n p) (row_of n p) && differ_by_one (column_of n p) (column_of n p)) (nat_eq (column_of n p) (column_of n p) && differ_by_one (row_of n p) (row_of n p)) (and_right (nat_lt p (n * n) && nat_lt p (n * n)) _ self)) [
      | inl e ↦ differ_self (column_of n p) (and_right (nat_eq (row_of n p) (row_of n p)) _ e)
      | inr e ↦ differ_self (row_of n p) (and_right (nat_eq (column_of n p) (column_of n p)) _ e)
    ]

-- where a stone is put down, the points beside it that have no head are those that are empty afterwards
pub headless_beside : (n : ℕ) (c d : List Cell) (heads next : List ℕ) (p : ℕ) → HasCircles n c heads next → ((q : ℕ) → q ≢ p → cell_at d q ≡ cell_at c q) → touches n heads nowhere p ≡ empties_beside n d p
unfolding touches
headless_beside n c d heads next p chains others =
    total_same (is_head heads nowhere) (λ q. cond {A = ℕ} (same_cell (cell_at d q) Empty) 1 0) (neighbours n p)
    (λ q m. (let adj : adjacent n p q ≡ true = member_neighbours n p q (in_member q (neighbours n p) m) in
    ap (λ b. cond {A = ℕ} b 1 0) (alike q (adjacent_on_board n p q adj).1 ∙ ap (λ a. same_cell a Empty) (sym (others q (beside_not_self n p q adj))))))
  where
    alike : (q : ℕ) → q < n * n → nat_eq (slice_index heads q) nowhere ≡ same_cell (cell_at c q) Empty
    alike q on = elim (cases_eq (slice_index heads q) nowhere) [
      | inl none ↦ eq-eqb (slice_index heads q) nowhere none ∙ sym (eq_same_cell (cell_at c q) Empty (chains.empties q on none))
      | inr has ↦ off (slice_index heads q) nowhere has ∙ sym (false_from_ne_true (same_cell (cell_at c q) Empty) (λ e. chains.stones q on has (same_cell_eq (cell_at c q) Empty e)))
    ]

module _ (n : ℕ) (c : List Cell) (heads next counts : List ℕ) (k : Colour) (p : ℕ) (room : n * n ≤ MAX_POINTS) (whole : length c ≡ n * n) (on : p < n * n) (free : cell_at c p ≡ Empty) (board : IsBoard n c heads next counts) where
  -- with the stone
  after : List Cell
  after = set c p (Stone k)

  here : cell_at after p ≡ Stone k
  unfolding after
  here = get_or-set_same c p (Stone k) Empty (omega (arith, on, whole))

  others : (q : ℕ) → q ≢ p → cell_at after q ≡ cell_at c q
  unfolding after
  others q ne = get_or-set_other c p q (Stone k) Empty ne

  not_p : (q : ℕ) → cell_at c q ≢ Empty → q ≢ p
  not_p q stone e = stone (ap (cell_at c) e ∙ free)

  empty_not_p : (e : ℕ) → cell_at after e ≡ Empty → e ≢ p
  empty_not_p e empty same = cc (here, empty, ap (cell_at after) same)

  has : (q : ℕ) → q < n * n → cell_at c q ≢ Empty → slice_index heads q ≢ nowhere
  has q q_on stone e = stone (board.settled.chains.empties q q_on e)

  -- what a chain has left
  spare : (h : ℕ) → h < n * n → slice_index heads h ≡ h → liberty_count n after heads h + touches n heads h p ≡ slice_index counts h
  spare h h_on own =
      count_filled n c after heads heads h p on (λ q q_on. refl) others free (ap (λ a. same_cell a Empty) here)
      ∙ sym (board.settled.counted.right h h_on (λ e. omega (arith, h_on, room, e)) own)

  way_after : (own : Cell) (a b : ℕ) (rs : List ℕ) → own ≢ Empty → IsWay n c own a b rs → IsWay n after own a b rs
  way_after own a b [] ne w = (others a (not_p a (λ e. ne (sym w.0 ∙ e))) ∙ w.0, w.1)
  way_after own a b (r ∷ rs) ne w = (others a (not_p a (λ e. ne (sym w.0 ∙ e))) ∙ w.0, w.1, way_after own r b rs ne w.2)

  joined_after : (a b : ℕ) → cell_at c a ≢ Empty → Joined n c a b → Joined n after a b
  joined_after a b stone j = (j.0, subst (λ own. IsWay n after own a b j.0) (sym (others a (not_p a stone))) (way_after (cell_at c a) a b j.0 stone j.1))

  -- joined with a stone beside an empty point
  IsFree : ℕ → Type 0
  IsFree q = (r : ℕ) × (e : ℕ) × Joined n after q r × IsTrue (adjacent n r e) × (cell_at after e ≡ Empty)

  free_reaches : (q : ℕ) → cell_at after q ≢ Empty → IsFree q → Reaches n after q Empty
  unfolding IsFree
  free_reaches q stone f = reaches_beside n after q f.0 f.1 stone f.2 f.3 f.4

  free_beside : (q r : ℕ) → Joined n after q r → IsFree r → IsFree q
  unfolding IsFree
  free_beside q r j f = (f.0, f.1, joined_on n after q r f.0 j f.2, f.3, f.4)

  -- a chain with another liberty
  more_free : (q : ℕ) → q < n * n → cell_at c q ≢ Empty → touches n heads (slice_index heads q) p < slice_index counts (slice_index heads q) → IsFree q
  unfolding IsFree
  more_free q q_on stone more =
      let q_has = has q q_on stone in
      let sum = spare (slice_index heads q) (board.settled.chains.within q q_on q_has) (board.settled.chains.own q q_on q_has) in
      let found = count_to n after heads (slice_index heads q) (omega (arith, sum, more)) in
      let r_on = (adjacent_on_board n found.0 found.1 found.3).0 in
      (found.0, found.1, joined_after q found.0 stone (heads_joined n c heads next q found.0 board.settled.chains q_on r_on q_has found.2), found.3, found.4)

  module _ (stays : list_any (lets_stay n c heads counts k p) (neighbours n p) ≡ true) (takes : list_any (loses_last n c heads counts k p) (neighbours n p) ≡ false) where
    stone_free : IsFree p
    unfolding IsFree
    stone_free =
        let found = any_from (lets_stay n c heads counts k p) (neighbours n p) stays in
        let x = found.0 in
        let adj = member_neighbours n p x found.1 in
        elim (or_cases (same_cell (cell_at c x) Empty) (same_cell (cell_at c x) (Stone k) && has_more n heads counts p x) found.2) [
          | inl empty ↦ (let is = same_cell_eq (cell_at c x) Empty empty in (p, x, joined_self n after p, adj, others x (beside_not_self n p x adj) ∙ is))
          | inr own ↦ (let is = same_cell_eq (cell_at c x) (Stone k) (and_left _ _ own) in
              let x_on = (adjacent_on_board n p x adj).1 in
              let stone : cell_at c x ≢ Empty = λ e. cc (is, e) in
              let less = ltb-true (touches n heads (slice_index heads x) p) (slice_index counts (slice_index heads x)) (and_right (same_cell (cell_at c x) (Stone k)) _ own) in
              free_beside p x (joined_beside n after p p x (joined_self n after p) adj (others x (not_p x stone) ∙ is ∙ sym here)) (more_free x x_on stone less))
        ]

    other_free : (q : ℕ) (j : Colour) → q ≢ p → q < n * n → cell_at c q ≡ Stone j → IsFree q
    other_free q j away q_on is =
        let stone : cell_at c q ≢ Empty = λ e. cc (is, e) in
        let h = slice_index heads q in
        let split : (touches n heads h p < slice_index counts h) ⊎ (slice_index counts h ≤ touches n heads h p) = grind arith in
        elim split [
          | inl more ↦ more_free q q_on stone more
          | inr none ↦ last q j q_on is stone none
        ]
      where
        last : (q : ℕ) (j : Colour) → q < n * n → cell_at c q ≡ Stone j → cell_at c q ≢ Empty → slice_index counts (slice_index heads q) ≤ touches n heads (slice_index heads q) p → IsFree q
        last q j q_on is stone none =
            let h = slice_index heads q in
            let q_has = has q q_on stone in
            let h_on = board.settled.chains.within q q_on q_has in
            let living = board.has_liberties h h_on (board.settled.chains.own q q_on q_has) in
            let beside = touches_to n heads h p (omega (arith, living, none)) in
            let x = beside.0 in
            let x_on = (adjacent_on_board n p x beside.1).1 in
            let x_is : cell_at c x ≡ Stone j = head_holds n c heads next x h room board.settled.chains x_on h_on beside.2 ∙ sym (head_holds n c heads next q h room board.settled.chains q_on h_on refl) ∙ is in
            elim (one_or_other k j) [
              | inl own ↦ (let x_own : cell_at c x ≡ Stone k = x_is ∙ ap Stone own in
                  let to_x = joined_after q x stone (heads_joined n c heads next q x board.settled.chains q_on x_on q_has beside.2) in
                  let to_p = joined_beside n after q x p to_x (adjacent_back n p x beside.1) (here ∙ sym (others x (not_p x (λ e. cc (x_own, e))) ∙ x_own)) in
                  free_beside q p to_p stone_free)
              | inr other ↦ (let taken : loses_last n c heads counts k p x ≡ true = and_both _ _ (eq_same_cell (cell_at c x) (Stone (opponent_of k)) (x_is ∙ ap Stone other)) (ap not (false_from_ne_true (has_more n heads counts p x) (shut x beside.2 none))) in
                  absurd (cc (takes, any_to (loses_last n c heads counts k p) x (neighbours n p) (neighbours_member n p x beside.1) taken)))
            ]
          where
            shut : (x : ℕ) → slice_index heads x ≡ slice_index heads q → slice_index counts (slice_index heads q) ≤ touches n heads (slice_index heads q) p → has_more n heads counts p x ≡ true → ⊥
            shut x same none more =
                let less = subst (λ h. touches n heads h p < slice_index counts h) same (ltb-true (touches n heads (slice_index heads x) p) (slice_index counts (slice_index heads x)) more) in
                absurd (omega (arith, none, less))

    every_reaches : EveryStoneReaches n after
    every_reaches q j is = elim (cases_eq q p) [
      | inl same ↦ free_reaches q (λ e. cc (is, e)) (subst IsFree (sym same) stone_free)
      | inr away ↦ free_reaches q (λ e. cc (is, e)) (other_free q j away (board_of_stone q j away is) (sym (others q away) ∙ is))
    ]
      where
        board_of_stone : (q : ℕ) (j : Colour) → q ≢ p → cell_at after q ≡ Stone j → q < n * n
        board_of_stone q j away is = elim (on_or_off n q) [
          | inl q_on ↦ q_on
          | inr off ↦ absurd (cc (get_or_past c q Empty (omega (arith, off, whole)), others q away, is))
        ]

  -- where all stones reach empty, the tests say so
  module _ (every : EveryStoneReaches n after) where
    -- a path of stones of another colour than that of p
    ends : (own : Cell) (a : ℕ) (rs : List ℕ) → own ≢ Empty → own ≢ Stone k → cell_at after a ≡ own → IsPath n after own Empty a rs → (q : ℕ) × (e : ℕ) × (slice_index heads q ≡ slice_index heads a) × IsTrue (adjacent n q e) × (cell_at after e ≡ Empty)
    ends own a [] ne other is path = absurd (ne (sym is ∙ path))
    ends own a (e ∷ []) ne other is path = (a, e, refl, path.1, path.2)
    ends own a (b ∷ r ∷ rs) ne other is path =
        let found = ends own b (r ∷ rs) ne other path.2.0 path.2 in
        let a_is : cell_at c a ≡ own = sym (others a (λ e. other (sym is ∙ ap (cell_at after) e ∙ here))) ∙ is in
        let b_is : cell_at c b ≡ own = sym (others b (λ e. other (sym path.2.0 ∙ ap (cell_at after) e ∙ here))) ∙ path.2.0 in
        let same = board.settled.closed.same a b path.1 (λ e. ne (sym a_is ∙ e)) (b_is ∙ sym a_is) in
        (found.0, found.1, found.2 ∙ sym same, found.3, found.4)

    -- a chain beside an empty point has one liberty besides p
    more_from : (q e : ℕ) → q < n * n → cell_at c q ≢ Empty → IsTrue (adjacent n q e) → cell_at after e ≡ Empty → touches n heads (slice_index heads q) p < slice_index counts (slice_index heads q)
    more_from q e q_on stone adj empty =
        let q_has = has q q_on stone in
        let sum = spare (slice_index heads q) (board.settled.chains.within q q_on q_has) (board.settled.chains.own q q_on q_has) in
        let some = count_from n after heads (slice_index heads q) e q empty adj refl in
        omega (arith, sum, some)

    takes_none : list_any (loses_last n c heads counts k p) (neighbours n p) ≡ false
    takes_none = false_from_ne_true (list_any (loses_last n c heads counts k p) (neighbours n p)) (λ h. taken (any_from (loses_last n c heads counts k p) (neighbours n p) h))
      where
        taken : (x : ℕ) × Member x (neighbours n p) × (loses_last n c heads counts k p x ≡ true) → ⊥
        taken found =
            let x = found.0 in
            let adj = member_neighbours n p x found.1 in
            let x_on = (adjacent_on_board n p x adj).1 in
            let is : cell_at c x ≡ Stone (opponent_of k) = same_cell_eq (cell_at c x) (Stone (opponent_of k)) (and_left (same_cell (cell_at c x) (Stone (opponent_of k))) (not (has_more n heads counts p x)) found.2) in
            let none = not_true (has_more n heads counts p x) (and_right (same_cell (cell_at c x) (Stone (opponent_of k))) (not (has_more n heads counts p x)) found.2) in
            let stone : cell_at c x ≢ Empty = λ e. cc (is, e) in
            let now : cell_at after x ≡ Stone (opponent_of k) = others x (not_p x stone) ∙ is in
            let r = every x (opponent_of k) now in
            let path : IsPath n after (Stone (opponent_of k)) Empty x r.1.0 = subst (λ own. IsPath n after own Empty x r.1.0) now r.1.1 in
            let end = ends (Stone (opponent_of k)) x r.1.0 (λ e. cc e) (λ e. opponent_ne k (cc e)) now path in
            let sum = spare (slice_index heads x) (board.settled.chains.within x x_on (has x x_on stone)) (board.settled.chains.own x x_on (has x x_on stone)) in
            let some = count_from n after heads (slice_index heads x) end.1 end.0 end.4 end.3 end.2 in
            absurd (cc (none, lt-ltb (touches n heads (slice_index heads x) p) (slice_index counts (slice_index heads x)) (omega (arith, sum, some))))

    -- p, or a stone of its colour whose chain stands beside it
    IsInside : ℕ → Type 0
    IsInside q = (q ≡ p) ⊎ ((q ≢ p) × (0 < touches n heads (slice_index heads q) p))

    finds : (q : ℕ) (rs : List ℕ) → cell_at after q ≡ Stone k → IsInside q → IsPath n after (Stone k) Empty q rs → list_any (lets_stay n c heads counts k p) (neighbours n p) ≡ true
    unfolding IsInside
    finds q [] is inside path = absurd (cc (is, path))
    finds q (e ∷ []) is (inl same) path =
        let adj : adjacent n p e ≡ true = subst (λ z. adjacent n z e ≡ true) same path.1 in
        let empty : cell_at c e ≡ Empty = sym (others e (empty_not_p e path.2)) ∙ path.2 in
        any_to (lets_stay n c heads counts k p) e (neighbours n p) (neighbours_member n p e adj) (or_left (same_cell (cell_at c e) Empty) (same_cell (cell_at c e) (Stone k) && has_more n heads counts p e) (eq_same_cell (cell_at c e) Empty empty))
    finds q (e ∷ []) is (inr chain) path =
        let was : cell_at c q ≡ Stone k = sym (others q chain.0) ∙ is in
        let stone : cell_at c q ≢ Empty = λ f. cc (was, f) in
        let q_on = (adjacent_on_board n q e path.1).0 in
        let less = more_from q e q_on stone path.1 path.2 in
        let beside = touches_to n heads (slice_index heads q) p chain.1 in
        let x = beside.0 in
        let x_on = (adjacent_on_board n p x beside.1).1 in
        let h_on = board.settled.chains.within q q_on (has q q_on stone) in
        let x_is : cell_at c x ≡ Stone k = head_holds n c heads next x (slice_index heads q) room board.settled.chains x_on h_on beside.2 ∙ sym (head_holds n c heads next q (slice_index heads q) room board.settled.chains q_on h_on refl) ∙ was in
        let more : has_more n heads counts p x ≡ true = lt-ltb (touches n heads (slice_index heads x) p) (slice_index counts (slice_index heads x)) (subst (λ h. touches n heads h p < slice_index counts h) (sym beside.2) less) in
        any_to (lets_stay n c heads counts k p) x (neighbours n p) (neighbours_member n p x beside.1)
        (or_right (same_cell (cell_at c x) Empty) (same_cell (cell_at c x) (Stone k) && has_more n heads counts p x) (and_both _ _ (eq_same_cell (cell_at c x) (Stone k) x_is) more))
    finds q (r ∷ s ∷ rs) is inside path = finds r (s ∷ rs) path.2.0 (next_inside inside (cases_eq r p)) path.2
      where
        next_inside : IsInside q → (r ≡ p) ⊎ (r ≢ p) → IsInside r
        next_inside was (inl same) = inl same
        next_inside (inl same) (inr away) = inr (away, touches_from n heads (slice_index heads r) p r (subst (λ z. adjacent n z r ≡ true) same path.1) refl)
        next_inside (inr chain) (inr away) =
            let q_is : cell_at c q ≡ Stone k = sym (others q chain.0) ∙ is in
            let r_is : cell_at c r ≡ Stone k = sym (others r away) ∙ path.2.0 in
            let same = board.settled.closed.same q r path.1 (λ e. cc (q_is, e)) (r_is ∙ sym q_is) in
            inr (away, subst (λ h. 0 < touches n heads h p) same chain.1)

    stays_some : list_any (lets_stay n c heads counts k p) (neighbours n p) ≡ true
    unfolding IsInside
    stays_some =
        let r = every p k here in
        finds p r.1.0 here (inl refl) (subst (λ own. IsPath n after own Empty p r.1.0) here r.1.1)

  pub quiet_is : (takes stays : Bool) → takes ≡ list_any (loses_last n c heads counts k p) (neighbours n p) → stays ≡ list_any (lets_stay n c heads counts k p) (neighbours n p)
      → IsTrue (not takes && stays) ↔ (after_move n c k p ≡ set c p (Stone k))
  unfolding after
  quiet_is takes stays takes_is stays_is = (
    λ h. law.1 (every_reaches (sym stays_is ∙ and_right (not takes) stays h) (sym takes_is ∙ not_true takes (and_left (not takes) stays h))),
    λ e. (let every = law.0 e in and_both (not takes) stays (ap not (takes_is ∙ takes_none every)) (stays_is ∙ stays_some every)),
  )
    where
      law : (after_move n c k p ≡ set c p (Stone k)) ↔ EveryStoneReaches n (set c p (Stone k))
      law = quiet_reaches n c k p whole
