-- Marks that are sound and closed are on exactly the free points.
use Rattle.go_turns.proofs.Common.{◌≡◌, ℕ, ◌+◌, ◌*◌, ◌<◌, ◌≤◌, Bool, true, false, not, ◌&&◌, ◌⊎◌, inl, inr, cond, List, [], ◌∷◌, length, get_or, set, refl, sym, ◌∙◌, ap, subst, arith, list_any, cases_eq, cases_lt, both_ways, get_or-set_same, get_or-set_other, sum_by-set, Colour, Cell, Empty, Stone, same_cell, neighbours, cell_at, reaches, lacks_liberty, same_cell_eq, eq_same_cell, is_marked, mark_count, IsSound, HasSeeds, AreFree}
use Rattle.std.proofs.lemmas.Bool.{true≢false}
use Rattle.std.proofs.lemmas.List.{get_or_past}
use Rattle.go_points.specs.Grid.{adjacent}
use Rattle.go_points.specs.Reach.{IsPath}
use Rattle.go_points.proofs.Lists.{any_from, any_to}
use Rattle.go_points.proofs.Cells.{adjacent_on_board, member_neighbours, neighbours_member}
use Rattle.go_points.proofs.Paths.{reaches_path}
use Rattle.go_turns.specs.Private.Marks.{IsFree, IsClosedBelow}
use Rattle.go_points.proofs.Anywhere.{same_tests}

-- one more mark
pub count_marked : (marks : List Bool) (i : ℕ) → i < length marks → is_marked marks i ≡ false → mark_count (set marks i true) ≡ mark_count marks + 1
count_marked marks i h e =
    let whole : mark_count (set marks i true) + cond (get_or marks i false) 1 0 ≡ mark_count marks + 1 = sum_by-set (λ b. cond b 1 0) marks i true false h in
    let none : ◌≡◌ {A = ℕ} (cond (get_or marks i false) 1 0) 0 = ap (λ b. cond {A = ℕ} b 1 0) e in
    omega arith

marked_cases : (marks : List Bool) (i p : ℕ) → i < length marks → is_marked (set marks i true) p ≡ true → (p ≡ i) ⊎ (is_marked marks p ≡ true)
marked_cases marks i p h e = elim (cases_eq p i) [ inl same ↦ inl same | inr other ↦ inr (sym (get_or-set_other marks i p true false other) ∙ e) ]

still_marked : (marks : List Bool) (i p : ℕ) → i < length marks → is_marked marks p ≡ true → is_marked (set marks i true) p ≡ true
still_marked marks i p h e =
    elim (cases_eq p i) [
      | inl same ↦ ap (λ x. get_or (set marks i true) x false) same ∙ get_or-set_same marks i true false h
      | inr other ↦ get_or-set_other marks i p true false other ∙ e
    ]

module _ (n : ℕ) (c : List Cell) (k : Colour) where
  -- a stone that touches a free point is free
  free_step : (p q : ℕ) → cell_at c p ≡ Stone k → adjacent n p q ≡ true → IsFree n c k q → IsFree n c k p
  free_step p q stone adj (inl empty) = inr (stone, (λ e. absurd (cc (stone, e)), (q ∷ [], (refl, adj, empty))))
  free_step p q stone adj (inr other) =
      inr (stone, (λ e. absurd (cc (stone, e)), (q ∷ other.1.1.0, (refl, adj, subst (λ own. IsPath n c own Empty q other.1.1.0) (other.0 ∙ sym stone) other.1.1.1))))

  pub sound_more : (marks : List Bool) (i : ℕ) → i < length marks → cell_at c i ≡ Stone k → list_any (is_marked marks) (neighbours n i) ≡ true → IsSound n c k marks → IsSound n c k (set marks i true)
  sound_more marks i h stone touch sound =
      let (q, m, marked) = any_from (is_marked marks) (neighbours n i) touch in
      let here : IsFree n c k i = free_step i q stone (member_neighbours n i q m) (sound.free q marked) in
      record {
        free = λ p e. elim (marked_cases marks i p h e) [ inl same ↦ subst (IsFree n c k) (sym same) here | inr had ↦ sound.free p had ];
      }

  pub seeds_more : (marks : List Bool) (i : ℕ) → i < length marks → HasSeeds n c marks → HasSeeds n c (set marks i true)
  seeds_more marks i h seeds = record { empties = λ p on e. still_marked marks i p h (seeds.empties p on e) }

  pub closed_more : (marks : List Bool) (i : ℕ) → IsClosedBelow n c k marks i → (cell_at c i ≡ Stone k → list_any (is_marked marks) (neighbours n i) ≡ true → is_marked marks i ≡ true) → IsClosedBelow n c k marks (i + 1)
  closed_more marks i below here = record {
    closed = λ p h stone touch. elim (cases_eq p i) [
      | inl same ↦
          ap (is_marked marks) same ∙ here (ap (cell_at c) (sym same) ∙ stone) (ap (λ x. list_any (is_marked marks) (neighbours n x)) (sym same) ∙ touch)
      | inr other ↦ below.closed p (omega arith) stone touch
    ];
  }

  -- each point of a path over stones of the colour to an empty point is marked, once no sweep marks more
  complete : (marks : List Bool) → HasSeeds n c marks → IsClosedBelow n c k marks (n * n) → (qs : List ℕ) (p : ℕ) → p < n * n → IsPath n c (Stone k) Empty p qs → is_marked marks p ≡ true
  complete marks seeds closed [] p on path = seeds.empties p on path
  complete marks seeds closed (q ∷ qs) p on path =
      closed.closed p on path.0 (any_to (is_marked marks) q (neighbours n p) (neighbours_member n p q path.1) (complete marks seeds closed qs q (adjacent_on_board n p q path.1).1 path.2))

  pub marks_exact : (marks : List Bool) → IsSound n c k marks → HasSeeds n c marks → IsClosedBelow n c k marks (n * n) → AreFree n c k marks
  marks_exact marks sound seeds closed = record {
    free = sound.free;
    marked = λ p on. elim [
      | inl empty ↦ seeds.empties p on empty
      | inr stone ↦ complete marks seeds closed stone.1.1.0 p on (subst (λ own. IsPath n c own Empty p stone.1.1.0) stone.0 stone.1.1.1)
    ];
  }

  -- the first marks: the empty points
  pub sound_start : (marks : List Bool) → length marks ≡ n * n → ((p : ℕ) → p < n * n → is_marked marks p ≡ same_cell (cell_at c p) Empty) → IsSound n c k marks
  sound_start marks full first = record {
    free = λ p e. elim (cases_lt p (length marks)) [
      | inl on ↦ inl (same_cell_eq (cell_at c p) Empty (sym (first p (omega arith)) ∙ e))
      | inr off ↦ absurd (both_ways _ (get_or_past marks p false off) e)
    ];
  }

  pub seeds_start : (marks : List Bool) → ((p : ℕ) → p < n * n → is_marked marks p ≡ same_cell (cell_at c p) Empty) → HasSeeds n c marks
  seeds_start marks first = record { empties = λ p on e. first p on ∙ eq_same_cell (cell_at c p) Empty e }

  -- with exact marks a stone of the colour reaches empty where it is marked
  pub reaches_marked : (marks : List Bool) (p : ℕ) → AreFree n c k marks → p < n * n → cell_at c p ≡ Stone k → reaches n c p Empty ≡ is_marked marks p
  reaches_marked marks p exact on stone =
      same_tests (reaches n c p Empty) (is_marked marks p)
      (λ e. exact.marked p on (inr (stone, (reaches_path n c p Empty).0 e)))
      (λ e. elim (exact.free p e) [ inl empty ↦ absurd (cc (stone, empty)) | inr found ↦ (reaches_path n c p Empty).1 found.1 ])

-- what a sweep has done at the points below i: `old` are the marks at its start, `has_spread` whether it has made one
pub record SpreadSoFar (n : ℕ) (c : List Cell) (k : Colour) (old marks : List Bool) (has_spread : Bool) (i : ℕ) : Type 0 where
  pub sound : IsSound n c k marks
  pub seeds : HasSeeds n c marks
  pub kept : mark_count old ≤ mark_count marks
  pub grown : has_spread ≡ true → mark_count old < mark_count marks
  pub closed : has_spread ≡ false → IsClosedBelow n c k marks i

pub spread_hit : (n : ℕ) (c : List Cell) (k : Colour) (old marks : List Bool) (b : Bool) (i : ℕ) → i < length marks → is_marked marks i ≡ false → cell_at c i ≡ Stone k → list_any (is_marked marks) (neighbours n i) ≡ true → SpreadSoFar n c k old marks b i → SpreadSoFar n c k old (set marks i true) true (i + 1)
spread_hit n c k old marks b i h unmarked stone touch s =
    let more = count_marked marks i h unmarked in
    record {
      sound = sound_more n c k marks i h stone touch s.sound;
      seeds = seeds_more n c k marks i h s.seeds;
      kept = omega (arith, s.kept, more);
      grown = λ e. omega (arith, s.kept, more);
      closed = λ e. absurd (true≢false e);
    }

pub spread_miss : (n : ℕ) (c : List Cell) (k : Colour) (old marks : List Bool) (b : Bool) (i : ℕ) → (cell_at c i ≡ Stone k → list_any (is_marked marks) (neighbours n i) ≡ true → is_marked marks i ≡ true) → SpreadSoFar n c k old marks b i → SpreadSoFar n c k old marks b (i + 1)
spread_miss n c k old marks b i here s = record {
  sound = s.sound;
  seeds = s.seeds;
  kept = s.kept;
  grown = s.grown;
  closed = λ e. closed_more n c k marks i (s.closed e) here;
}

-- a stone, by the marks of its colour
pub lacks_stone : (n : ℕ) (c : List Cell) (k : Colour) (marks : List Bool) (p : ℕ) → AreFree n c k marks → p < n * n → cell_at c p ≡ Stone k → lacks_liberty n c p ≡ not (is_marked marks p)
lacks_stone n c k marks p exact on stone = ap (λ a. not (same_cell a Empty) && not (reaches n c p Empty)) stone ∙ ap not (reaches_marked n c k marks p exact on stone)
