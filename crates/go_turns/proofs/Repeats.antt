-- Histories without repeats: one colouring more, and a front of one.
use Rattle.go_turns.proofs.Common.{◌≡◌, ℕ, zero, suc, ◌+◌, ◌<◌, ◌≤◌, Bool, true, false, ◌⊎◌, inl, inr, not, cond, List, [], ◌∷◌, ◌++◌, take, length, get_or, Some, None, refl, sym, ◌∙◌, ap, arith, list_any, position_or_len, lt-ltb, le-ltb, take_more, Cell, same_cells, true_or_false, place_in, repeats}
use Rattle.std.proofs.Common.{◌||◌}
use Rattle.std.specs.List.{position}
use Rattle.std.proofs.lemmas.Bool.{or_from}
use Rattle.std.proofs.lemmas.List.Folds.{list_any-append}
use Rattle.go_points.specs.Equal.{same_cells_symm}
use Rattle.go_turns.specs.History.{has_occurred}

-- neither of two tests passes
pub or_no_left : (a b : Bool) → (a || b) ≡ false → a ≡ false
or_no_left true b h = absurd (cc)
or_no_left false b h = refl

pub or_no_right : (a b : Bool) → (a || b) ≡ false → b ≡ false
or_no_right true b h = absurd (cc)
or_no_right false b h = h

module _ {X : Type 0} (test : X → Bool) where
  found_below : (xs : List X) → list_any test xs ≡ true → position_or_len test xs < length xs
  found_below [] h = absurd (cc)
  found_below (x ∷ xs) h = go (test x) h (found_below xs)
    where
      go : (b : Bool) → (b || list_any test xs) ≡ true → (list_any test xs ≡ true → position_or_len test xs < length xs) → cond (not b) (1 + position_or_len test xs) 0 < length (x ∷ xs)
      go true e rest = omega arith
      go false e rest = omega (arith, rest e)

  all_past : (xs : List X) → list_any test xs ≡ false → length xs ≤ position_or_len test xs
  all_past [] h = omega arith
  all_past (x ∷ xs) h = go (test x) h (all_past xs)
    where
      go : (b : Bool) → (b || list_any test xs) ≡ false → (list_any test xs ≡ false → length xs ≤ position_or_len test xs) → length (x ∷ xs) ≤ cond (not b) (1 + position_or_len test xs) 0
      go true e rest = absurd (cc)
      go false e rest = omega (arith, rest e)

  pub no_position : (xs : List X) → list_any test xs ≡ false → position test xs ≡ None
  no_position xs h = ap (λ b. cond b (Some (position_or_len test xs)) None) (le-ltb (position_or_len test xs) (length xs) (all_past xs h))

  pub some_position : (xs : List X) → list_any test xs ≡ true → position test xs ≡ Some (position_or_len test xs)
  some_position xs h = ap (λ b. cond b (Some (position_or_len test xs)) None) (lt-ltb (position_or_len test xs) (length xs) (found_below xs h))

  pub no_element : (xs : List X) → position test xs ≡ None → list_any test xs ≡ false
  no_element xs h = go (true_or_false (list_any test xs))
    where
      go : (list_any test xs ≡ true) ⊎ (list_any test xs ≡ false) → list_any test xs ≡ false
      go (inl some) =
          absurd (cc (h, ap (λ b. cond b (Some (position_or_len test xs)) None) (lt-ltb (position_or_len test xs) (length xs) (found_below xs some))))
      go (inr none) = none

  none_in_front : (xs : List X) (k : ℕ) → list_any test xs ≡ false → list_any test (take k xs) ≡ false
  none_in_front xs zero h = refl
  none_in_front [] (suc k) h = refl
  none_in_front (x ∷ xs) (suc k) h =
      or_from (test x) (list_any test (take k xs)) (or_no_left (test x) (list_any test xs) h) (none_in_front xs k (or_no_right (test x) (list_any test xs) h))

-- none passes where none does at any place
pub any_none : (f : List Cell → Bool) (xs : List (List Cell)) → ((k : ℕ) → k < length xs → f (get_or xs k []) ≡ false) → list_any f xs ≡ false
any_none f [] failed = refl
any_none f (x ∷ xs) failed = ap (λ b. b || list_any f xs) (failed 0 (omega arith)) ∙ any_none f xs (λ k low. failed (suc k) (omega (arith, low)))

-- one colouring more repeats nothing where it has not occurred, and only there
repeats_push : (h : List (List Cell)) (c : List Cell) → repeats h ≡ false → has_occurred h c ≡ false → repeats (h ++ c ∷ []) ≡ false
repeats_push [] c once new = refl
repeats_push (x ∷ xs) c once new =
    or_from (has_occurred (xs ++ c ∷ []) x) (repeats (xs ++ c ∷ []))
    (list_any-append (same_cells x) xs (c ∷ [])
    ∙ or_from (has_occurred xs x) (same_cells x c || false) (or_no_left (has_occurred xs x) (repeats xs) once) (or_from (same_cells x c) false (same_cells_symm x c ∙ or_no_left (same_cells c x) (has_occurred xs c) new) refl))
    (repeats_push xs c (or_no_right (has_occurred xs x) (repeats xs) once) (or_no_right (same_cells c x) (has_occurred xs c) new))

last_is_new : (h : List (List Cell)) (c : List Cell) → repeats (h ++ c ∷ []) ≡ false → has_occurred h c ≡ false
last_is_new [] c once = refl
last_is_new (x ∷ xs) c once =
    let apart = sym (list_any-append (same_cells x) xs (c ∷ [])) ∙ or_no_left (has_occurred (xs ++ c ∷ []) x) (repeats (xs ++ c ∷ [])) once in
    let differs = or_no_left (same_cells x c) false (or_no_right (has_occurred xs x) (same_cells x c || false) apart) in
    or_from (same_cells c x) (has_occurred xs c) (same_cells_symm c x ∙ differs) (last_is_new xs c (or_no_right (has_occurred (xs ++ c ∷ []) x) (repeats (xs ++ c ∷ [])) once))

pub once_more : (h : List (List Cell)) (c : List Cell) → repeats h ≡ false → place_in h c ≡ None → repeats (h ++ c ∷ []) ≡ false
once_more h c once new = repeats_push h c once (no_element (same_cells c) h new)

pub once_in_front : (h : List (List Cell)) (k : ℕ) → repeats h ≡ false → repeats (take k h) ≡ false
once_in_front h zero once = refl
once_in_front [] (suc k) once = refl
once_in_front (x ∷ xs) (suc k) once =
    or_from (has_occurred (take k xs) x) (repeats (take k xs)) (none_in_front (same_cells x) xs k (or_no_left (has_occurred xs x) (repeats xs) once)) (once_in_front xs k (or_no_right (has_occurred xs x) (repeats xs) once))

-- each colouring of a history without repeats is new to those before it
pub next_is_new : (h : List (List Cell)) (i : ℕ) (d : List Cell) → i < length h → repeats h ≡ false → place_in (take i h) (get_or h i d) ≡ None
next_is_new h i d on once =
    no_position (same_cells (get_or h i d)) (take i h) (last_is_new (take i h) (get_or h i d) (sym (ap repeats (take_more h i d on)) ∙ once_in_front h (i + 1) once))
