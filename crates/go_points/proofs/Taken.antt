-- The stones that a move takes off, counted over the points.
use Rattle.go_points.proofs.Common.{◌≡◌, ℕ, zero, suc, ◌+◌, ◌*◌, ◌≤◌, ◌⊎◌, inl, inr, Bool, true, false, ◌&&◌, not, cond, List, map, take, length, set, refl, sym, ◌∙◌, subst, arith, range_with_len, count_by, map-id, Colour, Cell, Empty, Stone, opponent_of, same_cell, cell_at, is_captured, clear, after_move, taken_by_move, stone_count}
use Rattle.std.specs.List.{sum_by}
use Rattle.std.proofs.lemmas.List.{take_all, length-set}
use Rattle.std.proofs.lemmas.List.Sums.{sum_by_more}
use Rattle.std.proofs.lemmas.List.FromFn.{sum_by-map-range_with_len_more}
use Rattle.go_points.proofs.Clearing.{length-clear, cell_at-clear, cell_at_past, on_or_off}
use Rattle.go_points.specs.Private.Stones.{is_stone}

-- a stone that is gone
abbrev pub is_gone : List Cell → List Cell → ℕ → Bool
is_gone before after q = not (same_cell (cell_at before q) Empty) && same_cell (cell_at after q) Empty

one_cell : (x y : Cell) → (y ≡ Empty) ⊎ (y ≡ x) → cond {A = ℕ} (not (same_cell x Empty) && same_cell y Empty) 1 0 + cond {A = ℕ} (is_stone y) 1 0 ≡ cond {A = ℕ} (is_stone x) 1 0
one_cell Empty Empty h = refl
one_cell Empty (Stone k) (inl e) = absurd (cc e)
one_cell Empty (Stone k) (inr e) = absurd (cc e)
one_cell (Stone j) Empty h = refl
one_cell (Stone j) (Stone k) h = refl

module _ (before after : List Cell) (same_length : length after ≡ length before) (fewer : (p : ℕ) → (cell_at after p ≡ Empty) ⊎ (cell_at after p ≡ cell_at before p)) where
  gone_more : (k : ℕ) → count_by (is_gone before after) (range_with_len 0 (k + 1)) ≡ count_by (is_gone before after) (range_with_len 0 k) + cond {A = ℕ} (is_gone before after k) 1 0
  gone_more k =
      let whole : sum_by (λ q. cond {A = ℕ} (is_gone before after q) 1 0) (map (λ x. x) (range_with_len 0 (k + 1))) ≡ sum_by (λ q. cond {A = ℕ} (is_gone before after q) 1 0) (map (λ x. x) (range_with_len 0 k)) + cond {A = ℕ} (is_gone before after k) 1 0 = sum_by-map-range_with_len_more (λ q. cond {A = ℕ} (is_gone before after q) 1 0) (λ x. x) 0 k k (omega arith) in
      simp map-id at whole

  gone_upto : (k : ℕ) → k ≤ length before → count_by (is_gone before after) (range_with_len 0 k) + stone_count (take k after) ≡ stone_count (take k before)
  gone_upto zero le = refl
  gone_upto (suc k) le =
      let one : suc k ≡ k + 1 = omega arith in
      let had = gone_upto k (omega arith) in
      let a : stone_count (take (k + 1) after) ≡ stone_count (take k after) + cond {A = ℕ} (is_stone (cell_at after k)) 1 0 = sum_by_more (λ x. cond {A = ℕ} (is_stone x) 1 0) after k Empty (omega arith) in
      let b : stone_count (take (k + 1) before) ≡ stone_count (take k before) + cond {A = ℕ} (is_stone (cell_at before k)) 1 0 = sum_by_more (λ x. cond {A = ℕ} (is_stone x) 1 0) before k Empty (omega arith) in
      let here = one_cell (cell_at before k) (cell_at after k) (fewer k) in
      subst (λ m. count_by (is_gone before after) (range_with_len 0 m) + stone_count (take m after) ≡ stone_count (take m before)) (sym one) (omega (arith, had, a, b, here, gone_more k))

  -- what is gone and what is left are what there was
  pub gone_count : count_by (is_gone before after) (range_with_len 0 (length before)) + stone_count after ≡ stone_count before
  gone_count =
      let all_before : take (length before) before ≡ before = take_all (length before) before (omega arith) in
      let all_after : take (length before) after ≡ after = take_all (length before) after (omega arith) in
      rw (all_before, all_after) at (gone_upto (length before) (omega arith))

cond_cases : (b : Bool) (x y : Cell) → (cond b x y ≡ x) ⊎ (cond b x y ≡ y)
cond_cases true x y = inl refl
cond_cases false x y = inr refl

-- clearing empties points and does nothing else
pub clear_fewer : (n : ℕ) (c : List Cell) (k : Colour) (p : ℕ) → (cell_at (clear n c k) p ≡ Empty) ⊎ (cell_at (clear n c k) p ≡ cell_at c p)
clear_fewer n c k p = elim (on_or_off n p) [
  | inl on ↦ elim (cond_cases (is_captured n c k p) Empty (cell_at c p)) [ inl e ↦ inl (cell_at-clear n c k p on ∙ e) | inr e ↦ inr (cell_at-clear n c k p on ∙ e) ]
  | inr off ↦ inl (cell_at_past n c k p off)
]

pub both_fewer : (n : ℕ) (c : List Cell) (j k : Colour) (p : ℕ) → (cell_at (clear n (clear n c j) k) p ≡ Empty) ⊎ (cell_at (clear n (clear n c j) k) p ≡ cell_at c p)
both_fewer n c j k p = elim (clear_fewer n (clear n c j) k p) [
  | inl e ↦ inl e
  | inr e ↦ elim (clear_fewer n c j p) [ inl f ↦ inl (e ∙ f) | inr f ↦ inr (e ∙ f) ]
]

-- what a move takes off and what it leaves are what there was with the new stone
pub taken_count : (n : ℕ) (c : List Cell) (k : Colour) (p : ℕ) → length c ≡ n * n → taken_by_move n c k p + stone_count (after_move n c k p) ≡ stone_count (set c p (Stone k))
unfolding taken_by_move after_move
taken_count n c k p whole =
    let placed = set c p (Stone k) in
    let full : length placed ≡ n * n = length-set c p (Stone k) ∙ whole in
    let last = clear n (clear n placed (opponent_of k)) k in
    subst (λ m. count_by (is_gone placed last) (range_with_len 0 m) + stone_count last ≡ stone_count placed) full
    (gone_count placed last (length-clear n (clear n placed (opponent_of k)) k ∙ sym full) (both_fewer n placed (opponent_of k) k))
