-- Adjacency by the numbers of points, and the list of the adjacent points
use Rattle.go_points.proofs.Common.{◌≡◌, ℕ, zero, suc, ◌+◌, ◌-◌, ◌*◌, ◌/◌, ◌%◌, ◌<◌, ◌≤◌, Bool, true, false, ◌&&◌, ◌||◌, cond, nat_eq, nat_lt, ◌⊎◌, inl, inr, List, [], ◌∷◌, ◌++◌, filter, map, refl, sym, ◌∙◌, ap, arith, range_with_len, map-id, div-mul-add, mod-mul-add, div-add-mod', mod_below, mul-add-lt, false_from_ne_true, lt-ltb, Place, IsOn, number_of, differ_by_one, adjacent, neighbours, points}
use Rattle.std.proofs.Common.{eqb}
use Rattle.std.proofs.lemmas.List.{map-append, append-nil}
use Rattle.std.proofs.lemmas.List.FromFn.{filter_of_map_range_with_len_more}
use Rattle.std.proofs.lemmas.Bool.{and_parts, and_from, or_cases, or_left, or_right, eqb-true, eq-eqb}

-- adjacency without the bounds of the board
unfoldable pub is_adjacent : ℕ → ℕ → ℕ → Bool
is_adjacent n p q = (nat_eq (p / n) (q / n) && differ_by_one (p % n) (q % n)) || (nat_eq (p % n) (q % n) && differ_by_one (p / n) (q / n))

unfoldable pub neighbours_of : ℕ → ℕ → List ℕ
neighbours_of n p = filter (is_adjacent n p) (points n)

adjacent_on : (n p q : ℕ) → p < n * n → q < n * n → adjacent n p q ≡ is_adjacent n p q
unfolding is_adjacent
adjacent_on n p q on_p on_q = ap (λ b. b && nat_lt q (n * n) && is_adjacent n p q) (lt-ltb p (n * n) on_p) ∙ ap (λ b. b && is_adjacent n p q) (lt-ltb q (n * n) on_q)

-- two tests that agree on a range keep the same of it
filter_same : (f g : ℕ → Bool) (m a len : ℕ) → a + len ≤ m → ((q : ℕ) → q < m → f q ≡ g q) → filter f (range_with_len a len) ≡ filter g (range_with_len a len)
filter_same f g m a zero fits e = refl
filter_same f g m a (suc len) fits e =
    ap (λ b. cond b (a ∷ filter f (range_with_len (a + 1) len)) (filter f (range_with_len (a + 1) len))) (e a (omega arith)) ∙ ap (λ xs. cond (g a) (a ∷ xs) xs) (filter_same f g m (a + 1) len (omega arith) e)

pub neighbours_same : (n p : ℕ) → p < n * n → neighbours n p ≡ neighbours_of n p
unfolding neighbours neighbours_of
neighbours_same n p on = filter_same (adjacent n p) (is_adjacent n p) (n * n) 0 (n * n) (omega arith) (λ q low. adjacent_on n p q on low)

-- q stands above, left of, right of or below p
pub data IsBeside (n p q : ℕ) : Type 0 where
  above : q + n ≡ p → IsBeside n p q
  left : q + 1 ≡ p → 0 < p % n → IsBeside n p q
  right : p + 1 ≡ q → p % n + 1 < n → IsBeside n p q
  below : p + n ≡ q → IsBeside n p q

differ_cases : (a b : ℕ) → differ_by_one a b ≡ true → (a + 1 ≡ b) ⊎ (b + 1 ≡ a)
differ_cases a b h = elim (or_cases _ _ h) [ inl e ↦ inl (eqb-true _ _ e) | inr e ↦ inr (eqb-true _ _ e) ]

-- a point by its row and column
split : (n p : ℕ) → p / n * n + p % n ≡ p
split n p = div-add-mod' p n

row_beside : (n p q : ℕ) → 0 < n → p / n ≡ q / n → (p % n + 1 ≡ q % n) ⊎ (q % n + 1 ≡ p % n) → IsBeside n p q
row_beside n p q pos row (inl e) =
    let same : p / n * n ≡ q / n * n = ap (λ x. x * n) row in
    right (omega (arith, split n p, split n q)) (omega (arith, mod_below q n pos))
row_beside n p q pos row (inr e) =
    let same : p / n * n ≡ q / n * n = ap (λ x. x * n) row in
    left (omega (arith, split n p, split n q)) (omega arith)

col_beside : (n p q : ℕ) → p % n ≡ q % n → (p / n + 1 ≡ q / n) ⊎ (q / n + 1 ≡ p / n) → IsBeside n p q
col_beside n p q col (inl e) =
    let turned : (p / n + 1) * n ≡ q / n * n = ap (λ x. x * n) e in
    below (omega (arith, split n p, split n q))
col_beside n p q col (inr e) =
    let turned : (q / n + 1) * n ≡ p / n * n = ap (λ x. x * n) e in
    above (omega (arith, split n p, split n q))

pub beside_from_adjacent : (n p q : ℕ) → 0 < n → is_adjacent n p q ≡ true → IsBeside n p q
unfolding is_adjacent
beside_from_adjacent n p q pos h =
    elim (or_cases (eqb (p / n) (q / n) && differ_by_one (p % n) (q % n)) (eqb (p % n) (q % n) && differ_by_one (p / n) (q / n)) h) [
      | inl row ↦
          (let both = and_parts (eqb (p / n) (q / n)) (differ_by_one (p % n) (q % n)) row in
          row_beside n p q pos (eqb-true (p / n) (q / n) both.0) (differ_cases (p % n) (q % n) both.1))
      | inr col ↦
          (let both = and_parts (eqb (p % n) (q % n)) (differ_by_one (p / n) (q / n)) col in
          col_beside n p q (eqb-true (p % n) (q % n) both.0) (differ_cases (p / n) (q / n) both.1))
    ]

-- the converse: each of the four is adjacent
differ_by_succ : (a b : ℕ) → a + 1 ≡ b → differ_by_one a b ≡ true
differ_by_succ a b e = or_left _ _ (eq-eqb (a + 1) b e)

differ_by_pred : (a b : ℕ) → b + 1 ≡ a → differ_by_one a b ≡ true
differ_by_pred a b e = or_right _ _ (eq-eqb (b + 1) a e)

-- the row and the column of a number that is written by them
row_is : (n q r c : ℕ) → c < n → r * n + c ≡ q → q / n ≡ r
row_is n q r c h e = ap (λ x. x / n) (sym e) ∙ div-mul-add r n c h

col_is : (n q r c : ℕ) → c < n → r * n + c ≡ q → q % n ≡ c
col_is n q r c h e = ap (λ x. x % n) (sym e) ∙ mod-mul-add r n c h

adjacent_in_row : (n p q : ℕ) → p / n ≡ q / n → differ_by_one (p % n) (q % n) ≡ true → is_adjacent n p q ≡ true
unfolding is_adjacent
adjacent_in_row n p q row d = or_left _ _ (and_from _ _ (eq-eqb (p / n) (q / n) row) d)

adjacent_in_col : (n p q : ℕ) → p % n ≡ q % n → differ_by_one (p / n) (q / n) ≡ true → is_adjacent n p q ≡ true
unfolding is_adjacent
adjacent_in_col n p q col d = or_right _ _ (and_from _ _ (eq-eqb (p % n) (q % n) col) d)

pub adjacent_from_beside : (n p q : ℕ) → 0 < n → IsBeside n p q → is_adjacent n p q ≡ true
adjacent_from_beside n p q pos (above e) =
    let below_n : q % n < n = mod_below q n pos in
    let at : (q / n + 1) * n + q % n ≡ p = omega (arith, split n q) in
    adjacent_in_col n p q (col_is n p (q / n + 1) (q % n) below_n at) (differ_by_pred (p / n) (q / n) (sym (row_is n p (q / n + 1) (q % n) below_n at)))
adjacent_from_beside n p q pos (left e room) =
    let below_n : p % n < n = mod_below p n pos in
    let within : p % n - 1 < n = omega arith in
    let at : p / n * n + (p % n - 1) ≡ q = omega (arith, split n p) in
    let col : q % n ≡ p % n - 1 = col_is n q (p / n) (p % n - 1) within at in
    adjacent_in_row n p q (sym (row_is n q (p / n) (p % n - 1) within at)) (differ_by_pred (p % n) (q % n) (omega arith))
adjacent_from_beside n p q pos (right e room) =
    let at : p / n * n + (p % n + 1) ≡ q = omega (arith, split n p) in
    adjacent_in_row n p q (sym (row_is n q (p / n) (p % n + 1) room at)) (differ_by_succ (p % n) (q % n) (sym (col_is n q (p / n) (p % n + 1) room at)))
adjacent_from_beside n p q pos (below e) =
    let below_n : p % n < n = mod_below p n pos in
    let at : (p / n + 1) * n + p % n ≡ q = omega (arith, split n p) in
    adjacent_in_col n p q (sym (col_is n q (p / n + 1) (p % n) below_n at)) (differ_by_succ (p / n) (q / n) (sym (row_is n q (p / n + 1) (p % n) below_n at)))

-- the points below b that pass a test
pub below_that_pass : (ℕ → Bool) → ℕ → List ℕ
below_that_pass t b = filter t (range_with_len 0 b)

pass_more : (t : ℕ → Bool) (b : ℕ) → below_that_pass t (suc b) ≡ below_that_pass t b ++ cond (t b) (b ∷ []) []
unfolding below_that_pass
pass_more t b =
    let whole : filter t (map (λ x. x) (range_with_len 0 (b + 1))) ≡ filter t (map (λ x. x) (range_with_len 0 b)) ++ cond (t b) (b ∷ []) [] = filter_of_map_range_with_len_more t (λ x. x) 0 b b (omega arith) in
    let plain : filter t (range_with_len 0 (b + 1)) ≡ filter t (range_with_len 0 b) ++ cond (t b) (b ∷ []) [] = simp map-id at whole in
    let one : suc b ≡ b + 1 = omega arith in
    ap (λ k. filter t (range_with_len 0 k)) one ∙ plain

-- nothing passes from b on, k long
pass_none : (t : ℕ → Bool) (b k : ℕ) → ((q : ℕ) → b ≤ q → q < b + k → t q ≡ false) → below_that_pass t (b + k) ≡ below_that_pass t b
pass_none t b zero h = ap (below_that_pass t) (omega arith)
pass_none t b (suc k) h =
    let step : b + suc k ≡ suc (b + k) = omega arith in
    let miss : cond (t (b + k)) ((b + k) ∷ []) [] ≡ [] = ap (λ x. cond x ((b + k) ∷ []) []) (h (b + k) (omega arith) (omega arith)) in
    ap (below_that_pass t) step ∙ pass_more t (b + k) ∙ ap (λ x. below_that_pass t (b + k) ++ x) miss ∙ append-nil (below_that_pass t (b + k)) ∙ pass_none t b k (λ q low high. h q low (omega arith))

pub pass_upto : (t : ℕ → Bool) (b e : ℕ) (xs : List ℕ) → b ≤ e → below_that_pass t b ≡ xs → ((q : ℕ) → b ≤ q → q < e → t q ≡ false) → below_that_pass t e ≡ xs
pass_upto t b e xs le had h =
    let reach : e ≡ b + (e - b) = omega arith in
    ap (below_that_pass t) reach ∙ pass_none t b (e - b) (λ q low high. h q low (omega arith)) ∙ had

-- b itself passes
pub pass_one : (t : ℕ → Bool) (b : ℕ) (xs : List ℕ) → below_that_pass t b ≡ xs → t b ≡ true → below_that_pass t (suc b) ≡ xs ++ b ∷ []
pass_one t b xs had hit = pass_more t b ∙ ap (λ x. below_that_pass t b ++ cond x (b ∷ []) []) hit ∙ ap (λ x. x ++ b ∷ []) had

beside_none : (n p q : ℕ) → (q + n ≡ p → ⊥) → (q + 1 ≡ p → 0 < p % n → ⊥) → (p + 1 ≡ q → p % n + 1 < n → ⊥) → (p + n ≡ q → ⊥) → IsBeside n p q → ⊥
beside_none n p q a l r b (above e) = a e
beside_none n p q a l r b (left e room) = l e room
beside_none n p q a l r b (right e room) = r e room
beside_none n p q a l r b (below e) = b e

not_adjacent : (n p q : ℕ) → 0 < n → (q + n ≡ p → ⊥) → (q + 1 ≡ p → 0 < p % n → ⊥) → (p + 1 ≡ q → p % n + 1 < n → ⊥) → (p + n ≡ q → ⊥) → is_adjacent n p q ≡ false
not_adjacent n p q pos a l r b = false_from_ne_true (is_adjacent n p q) (λ h. beside_none n p q a l r b (beside_from_adjacent n p q pos h))

-- the four steps by which the list of neighbours is made: xs has the neighbours below a place of the board
module _ (n p : ℕ) (pos : 0 < n) where
  pub above_yes : n ≤ p → below_that_pass (is_adjacent n p) (p + 1 - n) ≡ (p - n) ∷ []
  unfolding below_that_pass
  above_yes h =
      let hit : is_adjacent n p (p - n) ≡ true = adjacent_from_beside n p (p - n) pos (above (omega arith)) in
      let none : below_that_pass (is_adjacent n p) 0 ≡ [] = refl in
      let start : below_that_pass (is_adjacent n p) (p - n) ≡ [] =
      pass_upto (is_adjacent n p) 0 (p - n) [] (omega arith) none (λ q low high. not_adjacent n p q pos (λ e. omega arith) (λ e room. omega arith) (λ e room. omega arith) (λ e. omega arith)) in
      let next : p + 1 - n ≡ suc (p - n) = omega arith in
      ap (below_that_pass (is_adjacent n p)) next ∙ pass_one (is_adjacent n p) (p - n) [] start hit

  pub above_no : p < n → below_that_pass (is_adjacent n p) (p + 1 - n) ≡ []
  unfolding below_that_pass
  above_no h =
      let next : p + 1 - n ≡ 0 = omega arith in
      ap (below_that_pass (is_adjacent n p)) next

  pub left_yes : (xs : List ℕ) → below_that_pass (is_adjacent n p) (p + 1 - n) ≡ xs → 0 < p % n → 1 < n → 0 < p → below_that_pass (is_adjacent n p) p ≡ xs ++ (p - 1) ∷ []
  left_yes xs had room wide some =
      let hit : is_adjacent n p (p - 1) ≡ true = adjacent_from_beside n p (p - 1) pos (left (omega arith) room) in
      let start : below_that_pass (is_adjacent n p) (p - 1) ≡ xs =
      pass_upto (is_adjacent n p) (p + 1 - n) (p - 1) xs (omega arith) had (λ q low high. not_adjacent n p q pos (λ e. omega arith) (λ e r. omega arith) (λ e r. omega arith) (λ e. omega arith)) in
      let next : p ≡ suc (p - 1) = omega arith in
      ap (below_that_pass (is_adjacent n p)) next ∙ pass_one (is_adjacent n p) (p - 1) xs start hit

  pub left_no : (xs : List ℕ) → below_that_pass (is_adjacent n p) (p + 1 - n) ≡ xs → p % n ≡ 0 → below_that_pass (is_adjacent n p) p ≡ xs
  left_no xs had edge =
      pass_upto (is_adjacent n p) (p + 1 - n) p xs (omega arith) had (λ q low high. not_adjacent n p q pos (λ e. omega arith) (λ e r. omega arith) (λ e r. omega arith) (λ e. omega arith))

  own : (xs : List ℕ) → below_that_pass (is_adjacent n p) p ≡ xs → below_that_pass (is_adjacent n p) (p + 1) ≡ xs
  own xs had =
      pass_upto (is_adjacent n p) p (p + 1) xs (omega arith) had (λ q low high. not_adjacent n p q pos (λ e. omega arith) (λ e r. omega arith) (λ e r. omega arith) (λ e. omega arith))

  -- up to the point below p, which is the last that can be adjacent
  pub right_yes : (xs : List ℕ) → below_that_pass (is_adjacent n p) p ≡ xs → p % n + 1 < n → below_that_pass (is_adjacent n p) (p + n) ≡ xs ++ (p + 1) ∷ []
  right_yes xs had room =
      let hit : is_adjacent n p (p + 1) ≡ true = adjacent_from_beside n p (p + 1) pos (right refl room) in
      let next : suc (p + 1) ≡ p + 2 = omega arith in
      let start : below_that_pass (is_adjacent n p) (suc (p + 1)) ≡ xs ++ (p + 1) ∷ [] = pass_one (is_adjacent n p) (p + 1) xs (own xs had) hit in
      pass_upto (is_adjacent n p) (suc (p + 1)) (p + n) (xs ++ (p + 1) ∷ []) (omega arith) start (λ q low high. not_adjacent n p q pos (λ e. omega arith) (λ e r. omega arith) (λ e r. omega arith) (λ e. omega arith))

  pub right_no : (xs : List ℕ) → below_that_pass (is_adjacent n p) p ≡ xs → n ≤ p % n + 1 → below_that_pass (is_adjacent n p) (p + n) ≡ xs
  right_no xs had edge =
      pass_upto (is_adjacent n p) (p + 1) (p + n) xs (omega arith) (own xs had) (λ q low high. not_adjacent n p q pos (λ e. omega arith) (λ e r. omega arith) (λ e r. omega arith) (λ e. omega arith))

  pub below_yes : (xs : List ℕ) (end : ℕ) → below_that_pass (is_adjacent n p) (p + n) ≡ xs → p + n < end → below_that_pass (is_adjacent n p) end ≡ xs ++ (p + n) ∷ []
  below_yes xs end had room =
      let hit : is_adjacent n p (p + n) ≡ true = adjacent_from_beside n p (p + n) pos (below refl) in
      let start : below_that_pass (is_adjacent n p) (suc (p + n)) ≡ xs ++ (p + n) ∷ [] = pass_one (is_adjacent n p) (p + n) xs had hit in
      pass_upto (is_adjacent n p) (suc (p + n)) end (xs ++ (p + n) ∷ []) (omega arith) start (λ q low high. not_adjacent n p q pos (λ e. omega arith) (λ e r. omega arith) (λ e r. omega arith) (λ e. omega arith))

  -- where the board ends at or before the point below p
  pub below_no : (xs : List ℕ) (end : ℕ) → below_that_pass (is_adjacent n p) (p + n) ≡ xs → p < end → end ≤ p + n → (p % n + 1 < n → p + 1 < end) → below_that_pass (is_adjacent n p) end ≡ xs
  below_no xs end had low high edge =
      let reach : end + (p + n - end) ≡ p + n = omega arith in
      sym (pass_upto (is_adjacent n p) end (p + n) (below_that_pass (is_adjacent n p) end) high refl (λ q l h. not_adjacent n p q pos (λ e. omega arith) (λ e r. omega arith) (λ e r. omega (arith, edge r)) (λ e. omega arith))) ∙ had

-- ys is xs, with x at its end where P holds
pub data Added (P : Type 0) (xs : List Place) (x : Place) (ys : List Place) : Type 0 where
  added : P → ys ≡ xs ++ x ∷ [] → Added P xs x ys
  kept : (P → ⊥) → ys ≡ xs → Added P xs x ys

-- the four steps at places, each from the numbers so far
module _ (n : ℕ) (p : Place) (on : IsOn n p) where
  some : 0 < n
  some = omega (arith, on.column_within)

  column : number_of n p % n ≡ p.column
  column = mod-mul-add p.row n p.column on.column_within

  in_board : number_of n p < n * n
  in_board = mul-add-lt p.row n p.column n on.row_within on.column_within

  pub up_step : (ys : List Place) → Added (0 < p.row) [] (record { row = p.row - 1; column = p.column }) ys → below_that_pass (is_adjacent n (number_of n p)) (number_of n p + 1 - n) ≡ map (number_of n) ys
  up_step ys (added h e) =
      let one_up : p.row ≡ (p.row - 1) + 1 = omega arith in
      let row : p.row * n ≡ ((p.row - 1) + 1) * n = ap (λ x. x * n) one_up in
      let far : n ≤ p.row * n + p.column = omega arith in
      let at : p.row * n + p.column - n ≡ (p.row - 1) * n + p.column = omega arith in
      above_yes n (number_of n p) some far ∙ ap (λ x. x ∷ []) at ∙ sym (ap (map (number_of n)) e)
  up_step ys (kept h e) =
      let top : p.row ≡ 0 = omega arith in
      let row : p.row * n ≡ 0 * n = ap (λ x. x * n) top in
      above_no n (number_of n p) some (omega (arith, on.column_within)) ∙ sym (ap (map (number_of n)) e)

  pub left_step : (xs ys : List Place) → below_that_pass (is_adjacent n (number_of n p)) (number_of n p + 1 - n) ≡ map (number_of n) xs → Added (0 < p.column) xs (record { row = p.row; column = p.column - 1 }) ys → below_that_pass (is_adjacent n (number_of n p)) (number_of n p) ≡ map (number_of n) ys
  left_step xs ys had (added h e) =
      let room : 0 < number_of n p % n = omega (arith, column) in
      let at : p.row * n + p.column - 1 ≡ p.row * n + (p.column - 1) = omega arith in
      left_yes n (number_of n p) some (map (number_of n) xs) had room (omega (arith, on.column_within)) (omega arith) ∙ ap (λ x. map (number_of n) xs ++ x ∷ []) at ∙ sym (ap (map (number_of n)) e ∙ map-append (number_of n) xs (record { row = p.row; column = p.column - 1 } ∷ []))
  left_step xs ys had (kept h e) =
      left_no n (number_of n p) some (map (number_of n) xs) had (omega (arith, column)) ∙ sym (ap (map (number_of n)) e)

  pub right_step : (xs ys : List Place) → below_that_pass (is_adjacent n (number_of n p)) (number_of n p) ≡ map (number_of n) xs → Added (p.column + 1 < n) xs (record { row = p.row; column = p.column + 1 }) ys → below_that_pass (is_adjacent n (number_of n p)) (number_of n p + n) ≡ map (number_of n) ys
  right_step xs ys had (added h e) =
      let at : p.row * n + p.column + 1 ≡ p.row * n + (p.column + 1) = omega arith in
      right_yes n (number_of n p) some (map (number_of n) xs) had (omega (arith, column)) ∙ ap (λ x. map (number_of n) xs ++ x ∷ []) at ∙ sym (ap (map (number_of n)) e ∙ map-append (number_of n) xs (record { row = p.row; column = p.column + 1 } ∷ []))
  right_step xs ys had (kept h e) =
      right_no n (number_of n p) some (map (number_of n) xs) had (omega (arith, column)) ∙ sym (ap (map (number_of n)) e)

  pub down_step : (xs ys : List Place) → below_that_pass (is_adjacent n (number_of n p)) (number_of n p + n) ≡ map (number_of n) xs → Added (p.row + 1 < n) xs (record { row = p.row + 1; column = p.column }) ys → below_that_pass (is_adjacent n (number_of n p)) (n * n) ≡ map (number_of n) ys
  down_step xs ys had (added h e) =
      let at : p.row * n + p.column + n ≡ (p.row + 1) * n + p.column = omega arith in
      let room : number_of n p + n < n * n = omega (arith, mul-add-lt (p.row + 1) n p.column n h on.column_within) in
      below_yes n (number_of n p) some (map (number_of n) xs) (n * n) had room ∙ ap (λ x. map (number_of n) xs ++ x ∷ []) at ∙ sym (ap (map (number_of n)) e ∙ map-append (number_of n) xs (record { row = p.row + 1; column = p.column } ∷ []))
  down_step xs ys had (kept h e) =
      let last : n ≡ p.row + 1 = omega (arith, on.row_within) in
      let area : n * n ≡ (p.row + 1) * n = ap (λ x. x * n) last in
      below_no n (number_of n p) some (map (number_of n) xs) (n * n) had in_board (omega arith) (λ room. omega (arith, column)) ∙ sym (ap (map (number_of n)) e)

  -- the four steps together: the list is that of the adjacent points
  pub neighbours_made : (f₁ f₂ f₃ f₄ : List Place) → Added (0 < p.row) [] (record { row = p.row - 1; column = p.column }) f₁ → Added (0 < p.column) f₁ (record { row = p.row; column = p.column - 1 }) f₂ → Added (p.column + 1 < n) f₂ (record { row = p.row; column = p.column + 1 }) f₃ → Added (p.row + 1 < n) f₃ (record { row = p.row + 1; column = p.column }) f₄ → map (number_of n) f₄ ≡ neighbours n (number_of n p)
  unfolding neighbours_of below_that_pass
  neighbours_made f₁ f₂ f₃ f₄ a₁ a₂ a₃ a₄ = sym (neighbours_same n (number_of n p) in_board ∙ down_step f₃ f₄ (right_step f₂ f₃ (left_step f₁ f₂ (up_step f₁ a₁) a₂) a₃) a₄)
