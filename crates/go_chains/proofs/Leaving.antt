-- Chains without liberty: taking one off gives no other one none.
use Rattle.go_chains.proofs.Common.{◌≡◌, ◌≢◌, ℕ, ◌+◌, ◌*◌, ◌<◌, ◌≤◌, Bool, true, false, cond, ◌⊎◌, inl, inr, nat_eq, List, length, slice_index, refl, sym, ◌∙◌, ap, subst, arith, cases_eq, MAX_POINTS, Colour, Cell, Empty, Stone, same_cell, adjacent, neighbours, points, cell_at, Reaches, clear, stone_count, same_cell_eq, eq_same_cell, neighbours_member, adjacent_on_board, Joined, nowhere, IsIn, touches, liberty_count, HasCircles, IsSettled, LacksLiberties, LeavesLiberties, clear_none}
use Rattle.go_points.proofs.Cells.{member_points}
use Rattle.go_chains.proofs.Joins.{joined_holds}
use Rattle.go_chains.proofs.Totals.{total_le_within}
use Rattle.go_chains.proofs.Counts.{member_in, in_member, touches_same, touches_to, counted_reaches}
use Rattle.go_chains.proofs.Merging.{off}
use Rattle.go_chains.proofs.Boards.{heads_joined}

-- a stone has the colour of its head
pub head_holds : (n : ℕ) (c : List Cell) (heads next : List ℕ) (p h : ℕ) → n * n ≤ MAX_POINTS → HasCircles n c heads next → p < n * n → h < n * n → slice_index heads p ≡ h → cell_at c p ≡ cell_at c h
head_holds n c heads next p h room chains on h_on same =
    joined_holds n c h p (subst (λ z. Joined n c z p) same (chains.joined p on (λ e. omega (arith, h_on, room, sym same ∙ e))))

-- liberties do not become fewer where stones are taken off
pub count_grows : (n : ℕ) (c d : List Cell) (heads more : List ℕ) (h : ℕ) → ((q : ℕ) → q < n * n → nat_eq (slice_index more q) h ≡ nat_eq (slice_index heads q) h)
    → ((q : ℕ) → q < n * n → cell_at c q ≡ Empty → cell_at d q ≡ Empty) → liberty_count n c heads h ≤ liberty_count n d more h
unfolding liberty_count
count_grows n c d heads more h same emptier = total_le_within _ _ (points n) (λ e m. part e (member_points n e (in_member e (points n) m)) (same_cell (cell_at c e) Empty) refl)
  where
    part : (e : ℕ) → e < n * n → (b : Bool) → same_cell (cell_at c e) Empty ≡ b → cond {A = ℕ} b (touches n heads h e) 0 ≤ cond {A = ℕ} (same_cell (cell_at d e) Empty) (touches n more h e) 0
    part e on false was = omega arith
    part e on true was =
        let is : same_cell (cell_at d e) Empty ≡ true = eq_same_cell (cell_at d e) Empty (emptier e on (same_cell_eq (cell_at c e) Empty was)) in
        let all : cond {A = ℕ} (same_cell (cell_at d e) Empty) (touches n more h e) 0 ≡ touches n more h e = ap (λ t. cond {A = ℕ} t (touches n more h e) 0) is in
        let kept = touches_same n heads more h e same in
        omega (arith, all, kept)

pub left_on : (n : ℕ) (b c d : List Cell) (first old now : List ℕ) → LeavesLiberties n b first c old → LeavesLiberties n c old d now → LeavesLiberties n b first d now
left_on n b c d first old now early late h lacking =
    let second = late h lacking in
    let one = early h second.lacking in
    record {
      lacking = one.lacking;
      cell = second.cell ∙ one.cell;
      points = λ q on e. second.points q on (one.points q on e);
    }

-- the chain g is taken off
module _ (n : ℕ) (c d : List Cell) (heads more next : List ℕ) (g : ℕ) (room : n * n ≤ MAX_POINTS) (g_on : g < n * n) (g_own : slice_index heads g ≡ g) (chains : HasCircles n c heads next)
    (emptied : (q : ℕ) → q < n * n → slice_index heads q ≡ g → cell_at d q ≡ Empty) (others : (q : ℕ) → q < n * n → slice_index heads q ≢ g → cell_at d q ≡ cell_at c q)
    (gone : (q : ℕ) → q < n * n → slice_index heads q ≡ g → slice_index more q ≡ nowhere) (kept : (q : ℕ) → q < n * n → slice_index heads q ≢ g → slice_index more q ≡ slice_index heads q) where
  not_g : (h : ℕ) → h < n * n → slice_index more h ≡ h → slice_index heads h ≢ g
  not_g h on own e = omega (arith, on, room, sym own ∙ gone h on e)

  pub removal_leaves : LeavesLiberties n c heads d more
  removal_leaves h lacking = record {
    lacking = record { on = lacking.on; own = was; none = omega (arith, count_grows n c d heads more h same emptier, lacking.none) };
    cell = others h lacking.on (not_g h lacking.on lacking.own);
    points = λ q on e. kept q on (λ f. other (sym e ∙ f)) ∙ e;
  }
    where
      was : slice_index heads h ≡ h
      was = sym (kept h lacking.on (not_g h lacking.on lacking.own)) ∙ lacking.own

      other : h ≢ g
      other e = not_g h lacking.on lacking.own (was ∙ e)

      same : (q : ℕ) → q < n * n → nat_eq (slice_index more q) h ≡ nat_eq (slice_index heads q) h
      same q on = elim (cases_eq (slice_index heads q) g) [
        | inl here ↦ off (slice_index more q) h (λ e. omega (arith, lacking.on, room, sym e ∙ gone q on here)) ∙ sym (off (slice_index heads q) h (λ e. other (sym e ∙ here)))
        | inr away ↦ ap (λ z. nat_eq z h) (kept q on away)
      ]

      emptier : (q : ℕ) → q < n * n → cell_at c q ≡ Empty → cell_at d q ≡ Empty
      emptier q on e = elim (cases_eq (slice_index heads q) g) [ inl here ↦ emptied q on here | inr away ↦ others q on away ∙ e ]

  pub removal_passes : (p : ℕ) → slice_index heads p ≡ g → (h : ℕ) → LacksLiberties n d more h → slice_index heads p ≢ h
  removal_passes p here h lacking e = not_g h lacking.on lacking.own (ap (slice_index heads) (sym e ∙ here) ∙ g_own)

-- a stone of a chain with a liberty reaches empty
pub stone_reaches : (n : ℕ) (c : List Cell) (heads next counts : List ℕ) (p : ℕ) → n * n ≤ MAX_POINTS → IsSettled n c heads next counts → p < n * n → cell_at c p ≢ Empty
    → (LacksLiberties n c heads (slice_index heads p) → ⊥) → Reaches n c p Empty
stone_reaches n c heads next counts p room s on stone living =
    let has : slice_index heads p ≢ nowhere = λ e. stone (s.chains.empties p on e) in
    let split : (liberty_count n c heads (slice_index heads p) ≡ 0) ⊎ (0 < liberty_count n c heads (slice_index heads p)) = grind arith in
    elim split [
      | inl none ↦ absurd (living (record { on = s.chains.within p on has; own = s.chains.own p on has; none = none }))
      | inr some ↦ counted_reaches n c heads p stone (λ q q_on same. heads_joined n c heads next p q s.chains on q_on has same) some
    ]

-- so far: the chains without liberty beside the point, of the colour, are none of those passed
pub record CapturedSoFar (n : ℕ) (first now : List Cell) (old heads next counts : List ℕ) (k : Colour) (removed : ℕ) (done : List ℕ) : Type 0 where
  pub settled : IsSettled n now heads next counts
  pub cleared : clear n now k ≡ clear n first k
  pub left : LeavesLiberties n first old now heads
  pub passed : (q : ℕ) → q < n * n → IsIn q done → (h : ℕ) → LacksLiberties n now heads h → cell_at now h ≡ Stone k → slice_index old q ≢ h
  pub count : removed + stone_count now ≡ stone_count first

pub captured_step : (n : ℕ) (first now after : List Cell) (old heads more next counts counts' : List ℕ) (k : Colour) (removed taken : ℕ) (x : ℕ) (done done' : List ℕ) → ((q : ℕ) → IsIn q done' → IsIn q done ⊎ (q ≡ x))
    → IsSettled n after more next counts' → clear n after k ≡ clear n now k → LeavesLiberties n now heads after more
    → ((h : ℕ) → LacksLiberties n after more h → cell_at after h ≡ Stone k → slice_index heads x ≢ h) → taken + stone_count after ≡ stone_count now
    → CapturedSoFar n first now old heads next counts k removed done → CapturedSoFar n first after old more next counts' k (removed + taken) done'
captured_step n first now after old heads more next counts counts' k removed taken x done done' last settled cleared left passed count s = record {
  settled = settled;
  cleared = cleared ∙ s.cleared;
  left = left_on n first now after old heads more s.left left;
  passed = λ q on m h lacking stone e. elim (last q m) [
    | inl before ↦ (let was = left h lacking in s.passed q on before h was.lacking (sym was.cell ∙ stone) e)
    | inr here ↦ (let was = s.left h (left h lacking).lacking in passed h lacking stone (ap (slice_index heads) (sym here) ∙ was.points q on e))
  ];
  count = omega (arith, count, s.count);
}

-- at the end no chain of the colour is without liberty
pub captured_end : (n : ℕ) (first now : List Cell) (old heads next counts : List ℕ) (k : Colour) (removed p : ℕ) → n * n ≤ MAX_POINTS → length now ≡ n * n
    → ((h : ℕ) → LacksLiberties n first old h → cell_at first h ≡ Stone k → 0 < touches n old h p)
    → CapturedSoFar n first now old heads next counts k removed (neighbours n p) → now ≡ clear n first k
captured_end n first now old heads next counts k removed p room whole beside s =
    sym (clear_none n now k whole (λ q on stone. stone_reaches n now heads next counts q room s.settled on (λ e. cc (e, stone)) (λ lacking. living q on stone lacking))) ∙ s.cleared
  where
    none : (h : ℕ) → LacksLiberties n now heads h → cell_at now h ≡ Stone k → ⊥
    none h lacking stone =
        let was = s.left h lacking in
        let found = touches_to n old h p (beside h was.lacking (sym was.cell ∙ stone)) in
        s.passed found.0 (on_board found.0 found.1) (member_in found.0 (neighbours n p) (neighbours_member n p found.0 found.1)) h lacking stone found.2
      where
        on_board : (q : ℕ) → adjacent n p q ≡ true → q < n * n
        on_board q adj = (adjacent_on_board n p q adj).1

    living : (q : ℕ) → q < n * n → cell_at now q ≡ Stone k → LacksLiberties n now heads (slice_index heads q) → ⊥
    living q on stone lacking = none (slice_index heads q) lacking (sym (head_holds n now heads next q (slice_index heads q) room s.settled.chains on lacking.on refl) ∙ stone)
