-- Clearing, a point at a time.
use Rattle.go_turns.proofs.Common.{◌≡◌, ℕ, ◌+◌, ◌*◌, ◌<◌, ◌≤◌, Bool, true, false, ◌&&◌, not, cond, inl, inr, List, length, get_or, set, sym, ◌∙◌, ap, arith, get_or-set_same, get_or-set_other, sum_by-set, cases_eq, Colour, Cell, Empty, Stone, same_cell, cell_at, reaches, clear, true_or_false, same_cell_eq, AreFree, is_marked}
use Rattle.std.proofs.lemmas.List.{length-set}
use Rattle.std.proofs.lemmas.List.FromFn.{fill_by_all}
use Rattle.go_points.specs.Clear.{is_captured}
use Rattle.go_points.proofs.Lists.{and_both}
use Rattle.go_points.specs.Private.Stones.{is_stone, stone_count}
use Rattle.go_turns.proofs.Marks.{reaches_marked}

-- what clearing leaves at p
abbrev pub cleared_cell : ℕ → List Cell → Colour → ℕ → Cell
cleared_cell n c k p = cond (is_captured n c k p) Empty (cell_at c p)

-- the points below i are cleared, the others are as they were
pub record ClearedSoFar (n : ℕ) (old : List Cell) (k : Colour) (new : List Cell) (removed i : ℕ) : Type 0 where
  pub full : length new ≡ n * n
  pub done : (p : ℕ) → p < i → cell_at new p ≡ cleared_cell n old k p
  pub rest : (p : ℕ) → i ≤ p → cell_at new p ≡ cell_at old p
  pub count : removed + stone_count new ≡ stone_count old
  pub few : removed ≤ i

captured_cell : (n : ℕ) (old : List Cell) (k : Colour) (p : ℕ) → is_captured n old k p ≡ true → cleared_cell n old k p ≡ Empty
captured_cell n old k p e = ap (λ b. cond b Empty (cell_at old p)) e

kept_cell : (n : ℕ) (old : List Cell) (k : Colour) (p : ℕ) → is_captured n old k p ≡ false → cleared_cell n old k p ≡ cell_at old p
kept_cell n old k p e = ap (λ b. cond b Empty (cell_at old p)) e

-- with exact marks
module _ (n : ℕ) (old : List Cell) (k : Colour) (marks : List Bool) (exact : AreFree n old k marks) where
  pub captured_yes : (p : ℕ) → p < n * n → same_cell (cell_at old p) (Stone k) ≡ true → is_marked marks p ≡ false → is_captured n old k p ≡ true
  captured_yes p on stone unmarked = and_both _ _ stone (ap not (reaches_marked n old k marks p exact on (same_cell_eq (cell_at old p) (Stone k) stone) ∙ unmarked))

  pub captured_other : (p : ℕ) → same_cell (cell_at old p) (Stone k) ≡ false → is_captured n old k p ≡ false
  captured_other p other = ap (λ b. b && not (reaches n old p Empty)) other

  pub captured_marked : (p : ℕ) → p < n * n → is_marked marks p ≡ true → is_captured n old k p ≡ false
  captured_marked p on marked = elim (true_or_false (same_cell (cell_at old p) (Stone k))) [
    | inl stone ↦
        ap (λ b. b && not (reaches n old p Empty)) stone ∙ ap not (reaches_marked n old k marks p exact on (same_cell_eq (cell_at old p) (Stone k) stone) ∙ marked)
    | inr other ↦ captured_other p other
  ]

pub cleared_hit : (n : ℕ) (old : List Cell) (k : Colour) (new : List Cell) (removed i : ℕ) → i < n * n → is_captured n old k i ≡ true → cell_at new i ≡ Stone k → ClearedSoFar n old k new removed i → ClearedSoFar n old k (set new i Empty) (removed + 1) (i + 1)
cleared_hit n old k new removed i on captured stone so_far =
    let within : i < length new = omega (arith, so_far.full) in
    let gone : stone_count (set new i Empty) + cond {A = ℕ} (is_stone (get_or new i Empty)) 1 0 ≡ stone_count new + cond {A = ℕ} (is_stone Empty) 1 0 = sum_by-set (λ x. cond (is_stone x) 1 0) new i Empty Empty within in
    let one : ◌≡◌ {A = ℕ} (cond {A = ℕ} (is_stone (get_or new i Empty)) 1 0) 1 = ap (λ x. cond {A = ℕ} (is_stone x) 1 0) stone in
    record {
      full = length-set new i Empty ∙ so_far.full;
      done = λ p h. elim (cases_eq p i) [
        | inl same ↦ ap (cell_at (set new i Empty)) same ∙ get_or-set_same new i Empty Empty within ∙ sym (captured_cell n old k i captured) ∙ ap (cleared_cell n old k) (sym same)
        | inr other ↦ get_or-set_other new i p Empty Empty other ∙ so_far.done p (omega arith)
      ];
      rest = λ p h. (let other : p ≡ i → ⊥ = λ e. omega arith in get_or-set_other new i p Empty Empty other ∙ so_far.rest p (omega arith));
      count = omega (arith, gone, one, so_far.count);
      few = omega (arith, so_far.few);
    }

pub cleared_miss : (n : ℕ) (old : List Cell) (k : Colour) (new : List Cell) (removed i : ℕ) → is_captured n old k i ≡ false → ClearedSoFar n old k new removed i → ClearedSoFar n old k new removed (i + 1)
cleared_miss n old k new removed i free so_far = record {
  full = so_far.full;
  done = λ p h. elim (cases_eq p i) [
    | inl same ↦ ap (cell_at new) same ∙ so_far.rest i (omega arith) ∙ sym (kept_cell n old k i free) ∙ ap (cleared_cell n old k) (sym same)
    | inr other ↦ so_far.done p (omega arith)
  ];
  rest = λ p h. so_far.rest p (omega arith);
  count = so_far.count;
  few = omega (arith, so_far.few);
}

pub cleared_all : (n : ℕ) (old : List Cell) (k : Colour) (new : List Cell) (removed : ℕ) → ClearedSoFar n old k new removed (n * n) → new ≡ clear n old k
unfolding clear
cleared_all n old k new removed so_far = fill_by_all (cleared_cell n old k) new (n * n) Empty so_far.full so_far.done
