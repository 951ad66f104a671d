-- A history of a colouring with others: those of the others that differ from it, one by one.
use Rattle.target_game.proofs.Common.{◌≡◌, ℕ, zero, suc, ◌+◌, ◌<◌, Bool, true, false, cond, not, ◌||◌, List, [], ◌∷◌, ◌++◌, drop, length, get_or, filter, refl, sym, ap, ◌∙◌, arith, All, drop-cons, drop-length, Cell, same_cells, has_occurred, repeats}
use Rattle.std.proofs.Common.{append_assoc, append-nil}
use Rattle.go_turns.proofs.Repeats.{or_no_left, or_no_right}

abbrev pub differs : List Cell → List Cell → Bool
differs c d = not (same_cells c d)

module _ (c : List Cell) (ds : List (List Cell)) where
  -- what was pushed so far, and what is still to be pushed from i on
  abbrev pub PushedTo : List (List Cell) → ℕ → Type 0
  PushedTo pushed i = pushed ++ filter (differs c) (drop i ds) ≡ c ∷ filter (differs c) ds

  pub pushed_first : (pushed : List (List Cell)) → pushed ≡ c ∷ [] → PushedTo pushed 0
  pushed_first pushed e = ap (λ xs. xs ++ filter (differs c) ds) e

  module _ (pushed : List (List Cell)) (i : ℕ) (d : List Cell) (low : i < length ds) (at : get_or ds i d ≡ d) (so_far : PushedTo pushed i) where
    step : drop i ds ≡ d ∷ drop (i + 1) ds
    step = let next : suc i ≡ i + 1 = omega arith in drop-cons ds i d low ∙ ap (λ y. y ∷ drop (suc i) ds) at ∙ ap (λ k. d ∷ drop k ds) next

    pub pushed_same : same_cells c d ≡ true → PushedTo pushed (i + 1)
    pushed_same e =
        sym (ap (λ b. pushed ++ cond (not b) (d ∷ filter (differs c) (drop (i + 1) ds)) (filter (differs c) (drop (i + 1) ds))) e)
        ∙ sym (ap (λ xs. pushed ++ filter (differs c) xs) step) ∙ so_far

    pub pushed_other : same_cells c d ≡ false → (more : List (List Cell)) → more ≡ pushed ++ d ∷ [] → PushedTo more (i + 1)
    pushed_other e more is =
        ap (λ xs. xs ++ filter (differs c) (drop (i + 1) ds)) is ∙ append_assoc pushed (d ∷ []) (filter (differs c) (drop (i + 1) ds))
        ∙ sym (ap (λ b. pushed ++ cond (not b) (d ∷ filter (differs c) (drop (i + 1) ds)) (filter (differs c) (drop (i + 1) ds))) e)
        ∙ sym (ap (λ xs. pushed ++ filter (differs c) xs) step) ∙ so_far

  pub pushed_all : (pushed : List (List Cell)) (i : ℕ) → i ≡ length ds → PushedTo pushed i → pushed ≡ c ∷ filter (differs c) ds
  pushed_all pushed i end so_far =
      sym (append-nil pushed) ∙ sym (ap (λ xs. pushed ++ filter (differs c) xs) (ap (λ k. drop k ds) end ∙ drop-length ds)) ∙ so_far

-- none of those that differ is it
none_same : (c : List Cell) (ds : List (List Cell)) → has_occurred (filter (differs c) ds) c ≡ false
none_same c [] = refl
none_same c (d ∷ ds) = go (same_cells c d) refl (none_same c ds)
  where
    go : (b : Bool) → same_cells c d ≡ b → has_occurred (filter (differs c) ds) c ≡ false → has_occurred (cond (not b) (d ∷ filter (differs c) ds) (filter (differs c) ds)) c ≡ false
    go true e h = h
    go false e h = ap (λ b. b || has_occurred (filter (differs c) ds) c) e ∙ h

-- what does not stand in a list does not stand in those of it that pass a test
not_among : (p : List Cell → Bool) (x : List Cell) (ds : List (List Cell)) → has_occurred ds x ≡ false → has_occurred (filter p ds) x ≡ false
not_among p x [] h = refl
not_among p x (d ∷ ds) h = go (p d) (not_among p x ds (or_no_right (same_cells x d) (has_occurred ds x) h))
  where
    go : (b : Bool) → has_occurred (filter p ds) x ≡ false → has_occurred (cond b (d ∷ filter p ds) (filter p ds)) x ≡ false
    go true rest = ap (λ b. b || has_occurred (filter p ds) x) (or_no_left (same_cells x d) (has_occurred ds x) h) ∙ rest
    go false rest = rest

once_among : (p : List Cell → Bool) (ds : List (List Cell)) → repeats ds ≡ false → repeats (filter p ds) ≡ false
once_among p [] h = refl
once_among p (d ∷ ds) h = go (p d) (once_among p ds (or_no_right (has_occurred ds d) (repeats ds) h))
  where
    go : (b : Bool) → repeats (filter p ds) ≡ false → repeats (cond b (d ∷ filter p ds) (filter p ds)) ≡ false
    go true rest = ap (λ b. b || repeats (filter p ds)) (not_among p d ds (or_no_left (has_occurred ds d) (repeats ds) h)) ∙ rest
    go false rest = rest

pub once_with : (c : List Cell) (ds : List (List Cell)) → repeats ds ≡ false → repeats (c ∷ filter (differs c) ds) ≡ false
once_with c ds h = ap (λ b. b || repeats (filter (differs c) ds)) (none_same c ds) ∙ once_among (differs c) ds h

all_cons : (P : List Cell → Type 0) (d : List Cell) (ds : List (List Cell)) → P d → All P ds → All P (d ∷ ds)
all_cons P d ds here h zero x low = here
all_cons P d ds here h (suc k) x low = h k x (omega arith)

all_among : (P : List Cell → Type 0) (p : List Cell → Bool) (ds : List (List Cell)) → All P ds → All P (filter p ds)
all_among P p [] h = h
all_among P p (d ∷ ds) h = go (p d) (all_among P p ds (λ k x low. h (suc k) x (omega arith)))
  where
    go : (b : Bool) → All P (filter p ds) → All P (cond b (d ∷ filter p ds) (filter p ds))
    go true rest = all_cons P d (filter p ds) (h 0 d (omega arith)) rest
    go false rest = rest

pub all_with : (P : List Cell → Type 0) (c : List Cell) (ds : List (List Cell)) → P c → All P ds → All P (c ∷ filter (differs c) ds)
all_with P c ds here h = all_cons P c (filter (differs c) ds) here (all_among P (differs c) ds h)
