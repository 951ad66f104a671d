-- A stone that is no cut point is taken off, and the rest of its chain stays a chain.
use Rattle.go_chains.proofs.Common.{◌≡◌, ◌≢◌, ℕ, ◌+◌, ◌*◌, ◌<◌, ◌≤◌, true, false, cond, inl, inr, nat_eq, eq-eqb, List, [], ◌∷◌, length, slice_index, set, refl, sym, ◌∙◌, ap, subst, arith, cases_eq, get_or-set_same, get_or-set_other, MAX_POINTS, Cell, Empty, Stone, same_cell, adjacent, neighbours, cell_at, adjacent_on_board, adjacent_back, member_neighbours, IsWay, Joined, nowhere, IsIn, Follows, Lists, HasCircle, HasCircles, HasCounts, IsClosed, Meet, touches, liberty_count, empties_beside}
use Rattle.go_chains.specs.Private.Chains.{IsNoCutPoint}
use Rattle.go_chains.proofs.Totals.{total_same}
use Rattle.go_chains.proofs.Joins.{joined_holds, way_on}
use Rattle.go_chains.proofs.Exchange.{follows_kept}
use Rattle.go_chains.proofs.Counts.{is_head, in_member, count_merged, count_filled, count_emptied}
use Rattle.go_chains.proofs.Merging.{off, circle_begins}
use Rattle.go_chains.proofs.Placing.{count_alone}
use Rattle.go_chains.proofs.Quietness.{beside_not_self}

pub way_first : (n : ℕ) (c : List Cell) (own : Cell) (p q : ℕ) (rs : List ℕ) → IsWay n c own p q rs → cell_at c p ≡ own
way_first n c own p q [] w = w.0
way_first n c own p q (r ∷ rs) w = w.0

pub stone_test : (a : Cell) → a ≢ Empty → same_cell a Empty ≡ false
stone_test Empty ne = absurd (ne refl)
stone_test (Stone k) ne = refl

module _ (n : ℕ) (c d : List Cell) (heads next : List ℕ) (h p : ℕ) (room : n * n ≤ MAX_POINTS) (heads_long : length heads ≡ MAX_POINTS) (next_long : length next ≡ MAX_POINTS) (chains : HasCircles n c heads next) (closed : IsClosed n c heads)
    (on : p < n * n) (stone : slice_index heads p ≢ nowhere) (here : slice_index heads p ≡ h) (whole : IsNoCutPoint n heads next h p) (is : cell_at d p ≡ Empty) (others : (q : ℕ) → q ≢ p → cell_at d q ≡ cell_at c q) where
  gone : List ℕ
  gone = set heads p nowhere

  tied : List ℕ
  tied = set next h (slice_index next p)

  h_on : h < n * n
  h_on = subst (λ z. z < n * n) here (chains.within p on stone)

  h_own : slice_index heads h ≡ h
  h_own = subst (λ z. slice_index heads z ≡ z) here (chains.own p on stone)

  no_head : (j : ℕ) → j < n * n → j ≢ nowhere
  no_head j j_on e = omega (arith, j_on, room, e)

  at_p : slice_index gone p ≡ nowhere
  unfolding gone
  at_p = get_or-set_same heads p nowhere 0 (omega (arith, on, room, heads_long))

  at_others : (q : ℕ) → q ≢ p → slice_index gone q ≡ slice_index heads q
  unfolding gone
  at_others q ne = get_or-set_other heads p q nowhere 0 ne

  -- a point that has a head still is not p
  headed : (q : ℕ) → slice_index gone q ≢ nowhere → q ≢ p
  headed q ne e = ne (ap (slice_index gone) e ∙ at_p)

  -- the stones of the chain hold what its head holds
  holds_as_head : (q : ℕ) → q < n * n → slice_index heads q ≡ h → cell_at c q ≡ cell_at c h
  holds_as_head q q_on e = subst (λ z. cell_at c q ≡ cell_at c z) e (joined_holds n c (slice_index heads q) q (chains.joined q q_on (λ f. no_head h h_on (sym e ∙ f))))

  -- two stones of the chain that meet are joined by a way without p
  over : (own : Cell) (a b : ℕ) → cell_at d a ≡ own → cell_at d b ≡ own → own ≡ cell_at c h → Meet n heads h p a b → (us : List ℕ) × IsWay n d own a b us
  over own a b at_a at_b is_own (inl same) = ([], (at_a, same))
  over own a b at_a at_b is_own (inr r) =
      let m_on = (adjacent_on_board n a r.middle r.first).1 in
      let at_m : cell_at d r.middle ≡ own = others r.middle r.other ∙ holds_as_head r.middle m_on r.own ∙ sym is_own in
      (r.middle ∷ b ∷ [], (at_a, r.first, (at_m, r.second, (at_b, refl))))

  meet_back : (a b : ℕ) → Meet n heads h p a b → Meet n heads h p b a
  meet_back a b (inl same) = inl (sym same)
  meet_back a b (inr r) = inr (record { middle = r.middle; other = r.other; own = r.own; first = adjacent_back n r.middle b r.second; second = adjacent_back n a r.middle r.first })

  -- the stones of the chain beside p are joined by ways without p
  bypass : (own : Cell) (a b : ℕ) → own ≡ cell_at c h → adjacent n p a ≡ true → adjacent n p b ≡ true → slice_index heads a ≡ h → slice_index heads b ≡ h → (us : List ℕ) × IsWay n d own a b us
  bypass own a b is_own beside_a beside_b head_a head_b =
      let held : (q : ℕ) → adjacent n p q ≡ true → slice_index heads q ≡ h → cell_at d q ≡ own = λ q adj e. others q (beside_not_self n p q adj) ∙ holds_as_head q (adjacent_on_board n p q adj).1 e ∙ sym is_own in
      let at_a = held a beside_a head_a in
      let at_b = held b beside_b head_b in
      let at_m = held whole.centre whole.beside whole.own in
      let first = over own a whole.centre at_a at_m is_own (whole.meet a beside_a head_a) in
      let second = over own whole.centre b at_m at_b is_own (meet_back b whole.centre (whole.meet b beside_b head_b)) in
      way_on n d own a whole.centre b first.0 second.0 first.1 second.1

  -- a way that goes over p goes round it
  way_round : (own : Cell) (a b : ℕ) (rs : List ℕ) → own ≢ Empty → a ≢ p → b ≢ p → IsWay n c own a b rs → (us : List ℕ) × IsWay n d own a b us
  way_round own a b [] ne na nb w = ([], (others a na ∙ w.0, w.1))
  way_round own a b (r ∷ []) ne na nb w =
      let away : r ≢ p = λ e. nb (sym w.2.1 ∙ e) in
      (r ∷ [], (others a na ∙ w.0, w.1, (others r away ∙ w.2.0, w.2.1)))
  way_round own a b (r ∷ s ∷ rs) ne na nb w = elim (cases_eq r p) [
    | inl same ↦
        (let head_r : slice_index heads r ≡ h = ap (slice_index heads) same ∙ here in
        let head_a : slice_index heads a ≡ h = closed.same a r w.1 (λ e. ne (sym w.0 ∙ e)) (w.2.0 ∙ sym w.0) ∙ head_r in
        let head_s : slice_index heads s ≡ h = sym (closed.same r s w.2.1 (λ e. ne (sym w.2.0 ∙ e)) (way_first n c own s b rs w.2.2 ∙ sym w.2.0)) ∙ head_r in
        let beside_a : adjacent n p a ≡ true = subst (λ z. adjacent n z a ≡ true) same (adjacent_back n a r w.1) in
        let beside_s : adjacent n p s ≡ true = subst (λ z. adjacent n z s ≡ true) same w.2.1 in
        let is_own : own ≡ cell_at c h = sym w.0 ∙ holds_as_head a (adjacent_on_board n p a beside_a).1 head_a in
        let front = bypass own a s is_own beside_a beside_s head_a head_s in
        let rest = way_round own s b rs ne (beside_not_self n p s beside_s) nb w.2.2 in
        way_on n d own a s b front.0 rest.0 front.1 rest.1)
    | inr other ↦ (let rest = way_round own r b (s ∷ rs) ne other nb w.2 in (r ∷ rest.0, (others a na ∙ w.0, w.1, rest.1)))
  ]

  -- the circle of the chain goes on from the head to what came after p
  circle_from : (xs : List ℕ) → Lists n heads next h h (h ∷ xs) → HasCircle n gone tied h
  unfolding gone tied
  circle_from [] l = absurd (whole.other (sym l.follows.1 ∙ whole.after))
  circle_from (x ∷ ys) l = (
    h ∷ ys,
    record {
      follows = (refl, subst (λ z. Follows tied z h ys) (sym tied_h) (follows_kept next tied (slice_index next p) h ys (λ q m. get_or-set_other next h q (slice_index next p) 0 (λ e. l.once.0 (inr (subst (λ z. IsIn z ys) e m)))) (subst (λ z. Follows next (slice_index next z) h ys) first l.follows.1.1)));
      once = (λ m. l.once.0 (inr m), l.once.1.1);
      inside = λ q m. elim m [
        | inl e ↦ stays q (inl e) (λ f. whole.other (sym e ∙ f))
        | inr m' ↦ stays q (inr (inr m')) (λ f. l.once.1.0 (subst (λ z. IsIn z ys) (f ∙ sym first) m'))
      ];
      all = λ q q_on e.
          let away = headed q (λ f. no_head h h_on (sym e ∙ f)) in
          elim (l.all q q_on (sym (at_others q away) ∙ e)) [
            | inl same ↦ inl same
            | inr m ↦ elim m [ inl same ↦ absurd (away (same ∙ first)) | inr m' ↦ inr m' ]
          ];
    },
  )
    where
      first : x ≡ p
      first = l.follows.1.0 ∙ whole.after

      tied_h : slice_index tied h ≡ slice_index next p
      tied_h = get_or-set_same next h (slice_index next p) 0 (omega (arith, h_on, room, next_long))

      stays : (q : ℕ) → IsIn q (h ∷ x ∷ ys) → q ≢ p → (q < n * n) × (slice_index gone q ≡ h)
      stays q m ne = let was = l.inside q m in (was.0, at_others q ne ∙ was.1)

  circle_other : (j : ℕ) → j < n * n → slice_index gone j ≡ j → j ≢ h → HasCircle n gone tied j
  unfolding gone tied
  circle_other j j_on own ne = (
    old.0,
    record {
      follows = follows_kept next tied j j old.0 (λ q m. get_or-set_other next h q (slice_index next p) 0 (λ e. ne (sym (old.1.inside q m).1 ∙ ap (slice_index heads) e ∙ h_own))) old.1.follows;
      once = old.1.once;
      inside = λ q m. let was = old.1.inside q m in (was.0, at_others q (λ e. ne (sym was.1 ∙ ap (slice_index heads) e ∙ here)) ∙ was.1);
      all = λ q q_on e. old.1.all q q_on (sym (at_others q (headed q (λ f. no_head j j_on (sym e ∙ f)))) ∙ e);
    },
  )
    where
      away : j ≢ p
      away = headed j (λ f. no_head j j_on (sym own ∙ f))

      old : HasCircle n heads next j
      old = chains.circles j j_on (sym (at_others j away) ∙ own)

  -- what had a head has it still, and the head is not p
  module _ (q : ℕ) (q_on : q < n * n) (ne : slice_index gone q ≢ nowhere) where
    apart : q ≢ p
    apart = headed q ne

    was : slice_index heads q ≢ nowhere
    was f = ne (at_others q apart ∙ f)

    head_apart : slice_index heads q ≢ p
    head_apart e = whole.other (sym here ∙ ap (slice_index heads) (sym e) ∙ chains.own q q_on was ∙ e)

    joined_still : Joined n d (slice_index gone q) q
    joined_still =
        let head = slice_index heads q in
        let own = chains.own q q_on was in
        let way = chains.joined q q_on was in
        let firm = chains.stones head (chains.within q q_on was) (λ f. was (sym own ∙ f)) in
        let short = way_round (cell_at c head) head q way.0 firm head_apart apart way.1 in
        subst (λ z. Joined n d z q) (sym (at_others q apart)) (short.0, subst (λ o. IsWay n d o head q short.0) (sym (others head head_apart)) short.1)

    own_still : slice_index gone (slice_index gone q) ≡ slice_index gone q
    own_still = ap (slice_index gone) (at_others q apart) ∙ at_others (slice_index heads q) head_apart ∙ chains.own q q_on was ∙ sym (at_others q apart)

  pub rest_circles : HasCircles n d (set heads p nowhere) (set next h (slice_index next p))
  unfolding gone tied
  rest_circles = record {
    empties = λ q q_on e. elim (cases_eq q p) [
      | inl same ↦ ap (cell_at d) same ∙ is
      | inr other ↦ others q other ∙ chains.empties q q_on (sym (at_others q other) ∙ e)
    ];
    stones = λ q q_on ne e. chains.stones q q_on (was q q_on ne) (sym (others q (apart q q_on ne)) ∙ e);
    within = λ q q_on ne. subst (λ z. z < n * n) (sym (at_others q (apart q q_on ne))) (chains.within q q_on (was q q_on ne));
    joined = λ q q_on ne. joined_still q q_on ne;
    circles = λ j j_on own. elim (cases_eq j h) [
      | inl same ↦ subst (HasCircle n gone tied) (sym same) (let begins = circle_begins n heads next h h_on h_own (chains.circles h h_on h_own) in circle_from begins.0 begins.1)
      | inr other ↦ circle_other j j_on own other
    ];
    own = λ q q_on ne. own_still q q_on ne;
  }

  pub rest_closed : IsClosed n d (set heads p nowhere)
  unfolding gone
  rest_closed = record {
    same = λ a b adj ne e.
        let na : a ≢ p = λ f. ne (ap (cell_at d) f ∙ is) in
        let nb : b ≢ p = λ f. ne (sym e ∙ ap (cell_at d) f ∙ is) in
        at_others a na ∙ closed.same a b adj (λ f. ne (others a na ∙ f)) (sym (others b nb) ∙ e ∙ others a na) ∙ sym (at_others b nb);
  }

  -- p alone, as it stood before it was joined
  lone : List ℕ
  lone = set heads p p

  lone_p : slice_index lone p ≡ p
  unfolding lone
  lone_p = get_or-set_same heads p p 0 (omega (arith, on, room, heads_long))

  lone_others : (q : ℕ) → q ≢ p → slice_index lone q ≡ slice_index heads q
  unfolding lone
  lone_others q ne = get_or-set_other heads p q p 0 ne

  -- no stone has p as its head
  not_headed : (q : ℕ) → q < n * n → slice_index heads q ≢ p
  not_headed q q_on e = whole.other (sym here ∙ ap (slice_index heads) (sym e) ∙ chains.own q q_on (λ f. no_head p on (sym e ∙ f)) ∙ e)

  touches_gone : touches n gone h p ≡ touches n heads h p
  unfolding touches
  touches_gone =
      total_same (is_head gone h) (is_head heads h) (neighbours n p)
      (λ q m. ap (λ x. cond {A = ℕ} (nat_eq x h) 1 0) (at_others q (beside_not_self n p q (member_neighbours n p q (in_member q (neighbours n p) m)))))

  was_stone : same_cell (cell_at c p) Empty ≡ false
  was_stone = stone_test (cell_at c p) (chains.stones p on stone)

  pub rest_count : liberty_count n d (set heads p nowhere) h + empties_beside n c p ≡ liberty_count n c heads h + touches n heads h p
  unfolding gone
  rest_count =
      let both : liberty_count n c heads h ≡ liberty_count n c lone h + liberty_count n c lone p = count_merged n c lone heads h p whole.other renamed in
      let alone : liberty_count n c lone p ≡ empties_beside n c p = count_alone n c lone p on lone_p (λ q q_on ne e. not_headed q q_on (sym (lone_others q ne) ∙ e)) in
      let without : liberty_count n c lone h + touches n gone h p ≡ liberty_count n d gone h = count_filled n d c gone lone h p on same_heads (λ q ne. sym (others q ne)) is was_stone in
      omega (arith, both, alone, without, touches_gone)
    where
      renamed : (q : ℕ) → q < n * n → slice_index heads q ≡ cond {A = ℕ} (nat_eq (slice_index lone q) p) h (slice_index lone q)
      renamed q q_on = elim (cases_eq q p) [
        | inl same ↦ ap (slice_index heads) same ∙ here ∙ sym (ap (λ t. cond {A = ℕ} t h (slice_index lone q)) (eq-eqb (slice_index lone q) p (ap (slice_index lone) same ∙ lone_p)))
        | inr other ↦ sym (ap (λ t. cond {A = ℕ} t h (slice_index lone q)) (off (slice_index lone q) p (λ e. not_headed q q_on (sym (lone_others q other) ∙ e))) ∙ lone_others q other)
      ]

      same_heads : (q : ℕ) → q < n * n → nat_eq (slice_index lone q) h ≡ nat_eq (slice_index gone q) h
      same_heads q q_on = elim (cases_eq q p) [
        | inl same ↦ off (slice_index lone q) h (λ e. whole.other (sym e ∙ ap (slice_index lone) same ∙ lone_p)) ∙ sym (off (slice_index gone q) h (λ e. no_head h h_on (sym e ∙ ap (slice_index gone) same ∙ at_p)))
        | inr other ↦ ap (λ z. nat_eq z h) (lone_others q other ∙ sym (at_others q other))
      ]

  pub rest_counts : (counts more : List ℕ) → HasCounts n c heads counts nowhere → slice_index more h + empties_beside n c p ≡ slice_index counts h + touches n heads h p
      → ((j : ℕ) → j < n * n → j ≢ h → slice_index more j ≡ slice_index counts j + touches n heads j p) → HasCounts n d (set heads p nowhere) more nowhere
  unfolding gone
  rest_counts counts more counted at_head given = record {
    right = λ j j_on ne own. elim (cases_eq j h) [
      | inl same ↦ subst (λ z. slice_index more z ≡ liberty_count n d gone z) (sym same) (let before = counted.right h h_on (no_head h h_on) h_own in omega (arith, before, at_head, rest_count))
      | inr other ↦
          (let away = headed j (λ f. no_head j j_on (sym own ∙ f)) in
          given j j_on other ∙ ap (λ z. z + touches n heads j p) (counted.right j j_on ne (sym (at_others j away) ∙ own)) ∙ sym (count_emptied n c d heads gone j p on (same_heads j j_on other) others was_stone is))
    ];
  }
    where
      same_heads : (j : ℕ) → j < n * n → j ≢ h → (q : ℕ) → q < n * n → nat_eq (slice_index gone q) j ≡ nat_eq (slice_index heads q) j
      same_heads j j_on ne q q_on = elim (cases_eq q p) [
        | inl same ↦ off (slice_index gone q) j (λ e. no_head j j_on (sym e ∙ ap (slice_index gone) same ∙ at_p)) ∙ sym (off (slice_index heads q) j (λ e. ne (sym e ∙ ap (slice_index heads) same ∙ here)))
        | inr other ↦ ap (λ z. nat_eq z j) (at_others q other)
      ]
