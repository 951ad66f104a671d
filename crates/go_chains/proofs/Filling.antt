-- A stone that was put down is joined with its neighbours one by one.
use Rattle.go_chains.proofs.Common.{◌≡◌, ◌≢◌, ℕ, ◌*◌, ◌<◌, ◌≤◌, true, cond, ◌⊎◌, inl, inr, List, [], length, slice_index, set, sym, ◌∙◌, ap, subst, arith, cases_eq, get_or-set_same, get_or-set_other, MAX_POINTS, Colour, Cell, Empty, Stone, same_cell, adjacent, neighbours, points, cell_at, adjacent_on_board, adjacent_back, eq_same_cell, neighbours_member, points_member, Joined, nowhere, IsIn, touches, liberty_count, AreFull, HasCircles, HasCounts, IsSettled, KeepsTogether, KeepsOthers}
use Rattle.go_chains.proofs.Joins.{joined_self, joined_on, joined_back, joined_beside}
use Rattle.go_chains.proofs.Totals.{total_from}
use Rattle.go_chains.proofs.Counts.{member_in}
use Rattle.go_chains.proofs.Placing.{placed_others}

pub not_empty : (a : Cell) (k : Colour) → a ≡ Stone k → a ≢ Empty
not_empty a k e f = cc (e, f)

-- a stone has a head
pub headed : (n : ℕ) (c : List Cell) (heads next : List ℕ) (p : ℕ) → HasCircles n c heads next → p < n * n → cell_at c p ≢ Empty → slice_index heads p ≢ nowhere
headed n c heads next p chains on stone e = stone (chains.empties p on e)

-- the heads of two adjacent stones of one colour are joined
pub bond : (n : ℕ) (c : List Cell) (heads next : List ℕ) (p q : ℕ) (k : Colour) → HasCircles n c heads next → adjacent n p q ≡ true → cell_at c p ≡ Stone k → cell_at c q ≡ Stone k
    → Joined n c (slice_index heads q) (slice_index heads p)
bond n c heads next p q k chains adj p_is q_is =
    let on = adjacent_on_board n p q adj in
    let first = chains.joined q on.1 (headed n c heads next q chains on.1 (not_empty (cell_at c q) k q_is)) in
    let last = chains.joined p on.0 (headed n c heads next p chains on.0 (not_empty (cell_at c p) k p_is)) in
    joined_on n c (slice_index heads q) q (slice_index heads p) first
    (joined_on n c q p (slice_index heads p) (joined_beside n c q q p (joined_self n c q) (adjacent_back n p q adj) (p_is ∙ sym q_is)) (joined_back n c (slice_index heads p) p last))

-- the liberties that a stone takes are there
pub touches_few : (n : ℕ) (c : List Cell) (heads : List ℕ) (j p : ℕ) → p < n * n → cell_at c p ≡ Empty → touches n heads j p ≤ liberty_count n c heads j
unfolding liberty_count
touches_few n c heads j p on free =
    let part = total_from (λ x. cond {A = ℕ} (same_cell (cell_at c x) Empty) (touches n heads j x) 0) p (points n) (member_in p (points n) (points_member n p on)) in
    let here : cond {A = ℕ} (same_cell (cell_at c p) Empty) (touches n heads j p) 0 ≡ touches n heads j p = ap (λ b. cond {A = ℕ} b (touches n heads j p) 0) (eq_same_cell (cell_at c p) Empty free) in
    omega (arith, part, here)

-- chains that were kept twice were kept
pub others_on : (n p : ℕ) (first old now : List ℕ) → KeepsOthers n p first old → KeepsOthers n p old now → KeepsOthers n p first now
others_on n p first old now before after h on own away =
    let late = after h on own away in
    let early = before h on late.own late.away in
    record {
      own = early.own;
      away = early.away;
      points = λ q q_on. late.points q q_on ∙ early.points q q_on;
    }

-- so far: the stone at p is closed with those in `done`
pub record FilledSoFar (n : ℕ) (c : List Cell) (first heads next counts : List ℕ) (k : Colour) (p : ℕ) (done : List ℕ) : Type 0 where
  pub full : AreFull heads next counts
  pub chains : HasCircles n c heads next
  pub counted : HasCounts n c heads counts nowhere
  pub near : (a b : ℕ) → a ≢ p → b ≢ p → adjacent n a b ≡ true → cell_at c a ≢ Empty → cell_at c b ≡ cell_at c a → slice_index heads a ≡ slice_index heads b
  pub bound : (q : ℕ) → q < n * n → IsIn q done → cell_at c q ≡ Stone k → slice_index heads p ≡ slice_index heads q
  pub others : KeepsOthers n p first heads

pub filled_start : (n : ℕ) (c d : List Cell) (heads more next counts next' counts' : List ℕ) (k : Colour) (p : ℕ) → n * n ≤ MAX_POINTS → length c ≡ n * n → p < n * n → slice_index heads p ≡ nowhere → IsSettled n c heads next counts
    → d ≡ set c p (Stone k) → more ≡ set heads p p → AreFull more next' counts' → HasCircles n d more next' → HasCounts n d more counts' nowhere → FilledSoFar n d heads more next' counts' k p []
filled_start n c d heads more next counts next' counts' k p room whole on free settled is now full chains counted = record {
  full = full;
  chains = chains;
  counted = counted;
  near = λ a b na nb adj stone e. at_others a na ∙ settled.closed.same a b adj (λ f. stone (kept a na ∙ f)) (sym (kept b nb) ∙ e ∙ kept a na) ∙ sym (at_others b nb);
  bound = λ q q_on m. absurd m;
  others = subst (KeepsOthers n p heads) (sym now) (placed_others n c d heads next k p room settled.full.heads_full settled.full.next_full on settled.chains free here kept);
}
  where
    at_others : (q : ℕ) → q ≢ p → slice_index more q ≡ slice_index heads q
    at_others q ne = ap (λ l. slice_index l q) now ∙ get_or-set_other heads p q p 0 ne

    kept : (q : ℕ) → q ≢ p → cell_at d q ≡ cell_at c q
    kept q ne = ap (λ l. cell_at l q) is ∙ get_or-set_other c p q (Stone k) Empty ne

    here : cell_at d p ≡ Stone k
    here = ap (λ l. cell_at l p) is ∙ get_or-set_same c p (Stone k) Empty (omega (arith, on, whole))

pub filled_step : (n : ℕ) (c : List Cell) (first heads next counts more next' counts' : List ℕ) (k : Colour) (p x : ℕ) (done after : List ℕ) → p < n * n
    → ((q : ℕ) → IsIn q after → IsIn q done ⊎ (q ≡ x)) → AreFull more next' counts' → HasCircles n c more next' → HasCounts n c more counts' nowhere
    → KeepsTogether n heads more → KeepsOthers n p heads more → (cell_at c x ≡ Stone k → slice_index more p ≡ slice_index more x)
    → FilledSoFar n c first heads next counts k p done → FilledSoFar n c first more next' counts' k p after
filled_step n c first heads next counts more next' counts' k p x done after p_on last full chains counted together others bound s = record {
  full = full;
  chains = chains;
  counted = counted;
  near = λ a b na nb adj stone e. together a b (adjacent_on_board n a b adj).0 (adjacent_on_board n a b adj).1 (s.near a b na nb adj stone e);
  bound = λ q on m is. elim (last q m) [
    | inl before ↦ together p q p_on on (s.bound q on before is)
    | inr here ↦ subst (λ z. slice_index more p ≡ slice_index more z) (sym here) (bound (subst (λ z. cell_at c z ≡ Stone k) here is))
  ];
  others = others_on n p first heads more s.others others;
}

pub filled_end : (n : ℕ) (c : List Cell) (first heads next counts : List ℕ) (k : Colour) (p : ℕ) → cell_at c p ≡ Stone k → FilledSoFar n c first heads next counts k p (neighbours n p) → IsSettled n c heads next counts
filled_end n c first heads next counts k p here s = record {
  full = s.full;
  chains = s.chains;
  counted = s.counted;
  closed = record {
    same = λ a b adj stone e. elim (cases_eq a p) [
      | inl is_a ↦ (let adj' : adjacent n p b ≡ true = subst (λ z. adjacent n z b ≡ true) is_a adj in
          let b_is : cell_at c b ≡ Stone k = e ∙ ap (cell_at c) is_a ∙ here in
          ap (slice_index heads) is_a ∙ s.bound b (adjacent_on_board n a b adj).1 (member_in b (neighbours n p) (neighbours_member n p b adj')) b_is)
      | inr not_a ↦ elim (cases_eq b p) [
        | inl is_b ↦ (let adj' : adjacent n p a ≡ true = adjacent_back n a p (subst (λ z. adjacent n a z ≡ true) is_b adj) in
            let a_is : cell_at c a ≡ Stone k = sym e ∙ ap (cell_at c) is_b ∙ here in
            sym (s.bound a (adjacent_on_board n a b adj).0 (member_in a (neighbours n p) (neighbours_member n p a adj')) a_is) ∙ sym (ap (slice_index heads) is_b))
        | inr not_b ↦ s.near a b not_a not_b adj stone e
      ]
    ];
  };
}
