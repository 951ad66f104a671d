-- The places that pass a test, as a set: with one more, with one less, the first, and their order.
use Rattle.go_points.proofs.Common.{◌≡◌, ◌≢◌, ℕ, zero, suc, ◌+◌, ◌*◌, ◌/◌, ◌%◌, ◌<◌, ◌≤◌, Bool, true, false, cond, not, ◌&&◌, ◌||◌, nat_eq, nat_lt, eqb-true, eq-eqb, List, [], ◌∷◌, map, filter, Some, refl, sym, ◌∙◌, ap, ap₂, subst, inl, inr, ◌⊎◌, arith, range_with_len, All, cases_eq, lt-ltb, false_from_ne_true, div-add-mod', div_below, mod_below, All-head, All-tail, MAX_SIZE, points, Place, IsOn, place_of, same_place, is_before, with_place, without_place, first_place, places_that}
use Rattle.std.specs.List.{AllPairs}
use Rattle.std.specs.Bool.{IsTrue}
use Rattle.std.proofs.lemmas.Bool.{ltb-true}
use Rattle.std.proofs.lemmas.Nat.{le-div}
use Rattle.std.proofs.lemmas.List.Elements.{All-nil, All-cons}
use Rattle.std.proofs.lemmas.List.Kept.{AllPairs-cons}
use Rattle.go_points.specs.Points.{IsPointSet}
use Rattle.go_points.specs.Private.Inverses.{same_numbers}
use Rattle.go_points.proofs.Lists.{and_both, and_right, or_cases, or_left, or_right, some_same, none_some}

-- a lower number comes before
rows_rise : (n i k : ℕ) → 0 < n → i ≤ k → i / n ≤ k / n
rows_rise n i k some low = le-div (i / n) k n some (omega (arith, div-add-mod' i n))

pub before : (n i k : ℕ) → 0 < n → i < k → is_before (place_of n i) (place_of n k) ≡ true
before n i k some low =
    let rows : i / n ≤ k / n = rows_rise n i k some (omega arith) in
    let split : (i / n < k / n) ⊎ (i / n ≡ k / n) = grind arith in
    elim split [
      | inl above ↦ or_left _ _ (lt-ltb (i / n) (k / n) above)
      | inr level ↦
          (let same : i / n * n ≡ k / n * n = ap (λ r. r * n) level in
          or_right (nat_lt (i / n) (k / n)) _ (and_both _ _ (eq-eqb (i / n) (k / n) level) (lt-ltb (i % n) (k % n) (omega (arith, low, same, div-add-mod' i n, div-add-mod' k n)))))
    ]

pub not_before : (n i k : ℕ) → 0 < n → i ≤ k → is_before (place_of n k) (place_of n i) ≡ false
not_before n i k some low = go (nat_lt (k / n) (i / n)) (nat_eq (k / n) (i / n)) (nat_lt (k % n) (i % n)) refl refl refl (rows_rise n i k some low)
  where
    go : (a b d : Bool) → nat_lt (k / n) (i / n) ≡ a → nat_eq (k / n) (i / n) ≡ b → nat_lt (k % n) (i % n) ≡ d → i / n ≤ k / n → (a || (b && d)) ≡ false
    go true b d is_a is_b is_d rows = absurd (omega (arith, rows, ltb-true (k / n) (i / n) is_a))
    go false true true is_a is_b is_d rows =
        let same : k / n * n ≡ i / n * n = ap (λ r. r * n) (eqb-true (k / n) (i / n) is_b) in
        absurd (omega (arith, low, same, ltb-true (k % n) (i % n) is_d, div-add-mod' i n, div-add-mod' k n))
    go false true false is_a is_b is_d rows = refl
    go false false d is_a is_b is_d rows = refl

apart : (n i k : ℕ) → i ≢ k → same_place (place_of n i) (place_of n k) ≡ false
apart n i k other = same_numbers n i k ∙ false_from_ne_true (nat_eq i k) (λ e. other (eqb-true i k e))

alike : (n k : ℕ) → same_place (place_of n k) (place_of n k) ≡ true
alike n k = same_numbers n k k ∙ eq-eqb k k refl

-- the places of some numbers that pass
abbrev passing : ℕ → (ℕ → Bool) → List ℕ → List Place
passing n test xs = map (place_of n) (filter test xs)

abbrev pick : ℕ → Bool → ℕ → List Place → List Place
pick n true x ps = place_of n x ∷ ps
pick n false x ps = ps

more : (n : ℕ) (test : ℕ → Bool) (x : ℕ) (xs : List ℕ) → passing n test (x ∷ xs) ≡ pick n (test x) x (passing n test xs)
more n test x xs = go (test x)
  where
    go : (b : Bool) → map (place_of n) (cond b (x ∷ filter test xs) (filter test xs)) ≡ pick n b x (passing n test xs)
    go true = refl
    go false = refl

with_same : (p q : Place) (qs : List Place) → same_place p q ≡ true → with_place (q ∷ qs) p ≡ q ∷ qs
with_same p q qs e = ap (λ b. cond b (q ∷ qs) (cond (is_before p q) (p ∷ q ∷ qs) (q ∷ with_place qs p))) e

with_front : (p q : Place) (qs : List Place) → same_place p q ≡ false → is_before p q ≡ true → with_place (q ∷ qs) p ≡ p ∷ q ∷ qs
with_front p q qs e f = ap₂ (λ a b. cond a (q ∷ qs) (cond b (p ∷ q ∷ qs) (q ∷ with_place qs p))) e f

with_later : (p q : Place) (qs : List Place) → same_place p q ≡ false → is_before p q ≡ false → with_place (q ∷ qs) p ≡ q ∷ with_place qs p
with_later p q qs e f = ap₂ (λ a b. cond a (q ∷ qs) (cond b (p ∷ q ∷ qs) (q ∷ with_place qs p))) e f

without_first : (p q : Place) (qs : List Place) (b : Bool) → same_place p q ≡ b → without_place (q ∷ qs) p ≡ cond (not b) (q ∷ without_place qs p) (without_place qs p)
without_first p q qs b e = ap (λ v. cond (not v) (q ∷ without_place qs p) (without_place qs p)) e

-- two tests that differ at k alone
module _ (n k : ℕ) (test with_k : ℕ → Bool) (some : 0 < n) (others : (i : ℕ) → i ≢ k → with_k i ≡ test i) where
  past_k : (a m : ℕ) → k < a → passing n with_k (range_with_len a m) ≡ passing n test (range_with_len a m)
  past_k a zero low = refl
  past_k a (suc m) low =
      more n with_k a (range_with_len (a + 1) m)
      ∙ ap₂ (λ b ps. pick n b a ps) (others a (λ e. absurd (omega (arith, low, e)))) (past_k (a + 1) m (omega arith))
      ∙ sym (more n test a (range_with_len (a + 1) m))

  put_before : (a m : ℕ) → k < a → with_place (passing n test (range_with_len a m)) (place_of n k) ≡ place_of n k ∷ passing n test (range_with_len a m)
  put_before a zero low = refl
  put_before a (suc m) low =
      ap (λ ps. with_place ps (place_of n k)) (more n test a (range_with_len (a + 1) m))
      ∙ go (test a) (passing n test (range_with_len (a + 1) m)) (put_before (a + 1) m (omega arith))
      ∙ ap (λ ps. place_of n k ∷ ps) (sym (more n test a (range_with_len (a + 1) m)))
    where
      go : (b : Bool) (ps : List Place) → with_place ps (place_of n k) ≡ place_of n k ∷ ps → with_place (pick n b a ps) (place_of n k) ≡ place_of n k ∷ pick n b a ps
      go true ps rest = with_front (place_of n k) (place_of n a) ps (apart n k a (λ e. absurd (omega (arith, low, e)))) (before n k a some low)
      go false ps rest = rest

  put_in : (a m : ℕ) → a ≤ k → k < a + m → with_k k ≡ true → passing n with_k (range_with_len a m) ≡ with_place (passing n test (range_with_len a m)) (place_of n k)
  put_in a zero low high now = absurd (omega arith)
  put_in a (suc m) low high now =
      let split : (k ≡ a) ⊎ (a + 1 ≤ k) = grind arith in
      elim split [
        | inl same ↦ more n with_k a (range_with_len (a + 1) m)
            ∙ ap₂ (λ b ps. pick n b a ps) (ap with_k (sym same) ∙ now) (past_k (a + 1) m (omega arith))
            ∙ sym (ap (λ ps. with_place ps (place_of n k)) (more n test a (range_with_len (a + 1) m)) ∙ at (test a) same)
        | inr further ↦ more n with_k a (range_with_len (a + 1) m)
            ∙ ap₂ (λ b ps. pick n b a ps) (others a (λ e. absurd (omega (arith, further, e)))) (put_in (a + 1) m further (omega arith) now)
            ∙ sym (ap (λ ps. with_place ps (place_of n k)) (more n test a (range_with_len (a + 1) m)) ∙ later (test a) (passing n test (range_with_len (a + 1) m)) further)
      ]
    where
      at : (b : Bool) → k ≡ a → with_place (pick n b a (passing n test (range_with_len (a + 1) m))) (place_of n k) ≡ place_of n a ∷ passing n test (range_with_len (a + 1) m)
      at true same = with_same (place_of n k) (place_of n a) (passing n test (range_with_len (a + 1) m)) (same_numbers n k a ∙ eq-eqb k a same)
      at false same = put_before (a + 1) m (omega (arith, same)) ∙ ap (λ j. place_of n j ∷ passing n test (range_with_len (a + 1) m)) same

      later : (b : Bool) (ps : List Place) → a + 1 ≤ k → with_place (pick n b a ps) (place_of n k) ≡ pick n b a (with_place ps (place_of n k))
      later true ps further = with_later (place_of n k) (place_of n a) ps (apart n k a (λ e. absurd (omega (arith, further, e)))) (not_before n a k some (omega (arith, further)))
      later false ps further = refl

  take_out : (xs : List ℕ) → with_k k ≡ false → passing n with_k xs ≡ without_place (passing n test xs) (place_of n k)
  take_out [] now = refl
  take_out (x ∷ xs) now =
      elim (cases_eq x k) [
        | inl same ↦ more n with_k x xs
            ∙ ap₂ (λ b ps. pick n b x ps) (ap with_k same ∙ now) (take_out xs now)
            ∙ sym (ap (λ ps. without_place ps (place_of n k)) (more n test x xs) ∙ at (test x) (passing n test xs) same)
        | inr other ↦ more n with_k x xs
            ∙ ap₂ (λ b ps. pick n b x ps) (others x other) (take_out xs now)
            ∙ sym (ap (λ ps. without_place ps (place_of n k)) (more n test x xs) ∙ aside (test x) (passing n test xs) other)
      ]
    where
      at : (b : Bool) (ps : List Place) → x ≡ k → without_place (pick n b x ps) (place_of n k) ≡ without_place ps (place_of n k)
      at true ps same = without_first (place_of n k) (place_of n x) ps true (same_numbers n k x ∙ eq-eqb k x (sym same))
      at false ps same = refl

      aside : (b : Bool) (ps : List Place) → x ≢ k → without_place (pick n b x ps) (place_of n k) ≡ pick n b x (without_place ps (place_of n k))
      aside true ps other = without_first (place_of n k) (place_of n x) ps false (apart n k x (λ e. other (sym e)))
      aside false ps other = refl

  -- the set with the point k more, and less
  pub places_with : k < n * n → with_k k ≡ true → places_that n with_k ≡ with_place (places_that n test) (place_of n k)
  unfolding places_that
  places_with on now = put_in 0 (n * n) (omega arith) (omega arith) now

  pub places_without : with_k k ≡ false → places_that n with_k ≡ without_place (places_that n test) (place_of n k)
  unfolding places_that
  places_without now = take_out (points n) now

-- the first that passes
module _ (n : ℕ) (test : ℕ → Bool) where
  none_in : (a m : ℕ) → ((i : ℕ) → i < a + m → test i ≡ false) → passing n test (range_with_len a m) ≡ []
  none_in a zero none = refl
  none_in a (suc m) none = more n test a (range_with_len (a + 1) m) ∙ ap₂ (λ b ps. pick n b a ps) (none a (omega arith)) (none_in (a + 1) m (λ i low. none i (omega (arith, low))))

  pub places_none : ((i : ℕ) → i < n * n → test i ≡ false) → places_that n test ≡ []
  unfolding places_that
  places_none none = none_in 0 (n * n) (λ i low. none i (omega (arith, low)))

  first_in : (k a m : ℕ) → test k ≡ true → ((i : ℕ) → i < k → test i ≡ false) → a ≤ k → k < a + m → first_place (passing n test (range_with_len a m)) ≡ Some (place_of n k)
  first_in k a zero now none low high = absurd (omega arith)
  first_in k a (suc m) now none low high =
      let split : (k ≡ a) ⊎ (a + 1 ≤ k) = grind arith in
      elim split [
        | inl same ↦ ap first_place (more n test a (range_with_len (a + 1) m)) ∙ ap (λ b. first_place (pick n b a (passing n test (range_with_len (a + 1) m)))) (ap test (sym same) ∙ now) ∙ ap (λ j. Some (place_of n j)) (sym same)
        | inr further ↦ ap first_place (more n test a (range_with_len (a + 1) m)) ∙ ap (λ b. first_place (pick n b a (passing n test (range_with_len (a + 1) m)))) (none a (omega (arith, further))) ∙ first_in k (a + 1) m now none further (omega arith)
      ]

  pub places_first : (k : ℕ) → k < n * n → test k ≡ true → ((i : ℕ) → i < k → test i ≡ false) → first_place (places_that n test) ≡ Some (place_of n k)
  unfolding places_that
  places_first k on now none = first_in k 0 (n * n) now none (omega arith) (omega arith)

-- the places rise, and are on the board
module _ (n : ℕ) (test : ℕ → Bool) (some : 0 < n) where
  all_after : (i a m : ℕ) → i < a → All (λ q. IsTrue (is_before (place_of n i) q)) (passing n test (range_with_len a m))
  all_after i a zero low = All-nil _
  all_after i a (suc m) low = subst (All (λ q. IsTrue (is_before (place_of n i) q))) (sym (more n test a (range_with_len (a + 1) m))) (go (test a) (passing n test (range_with_len (a + 1) m)) (all_after i (a + 1) m (omega arith)))
    where
      go : (b : Bool) (ps : List Place) → All (λ q. IsTrue (is_before (place_of n i) q)) ps → All (λ q. IsTrue (is_before (place_of n i) q)) (pick n b a ps)
      go true ps rest = All-cons (λ q. IsTrue (is_before (place_of n i) q)) (place_of n a) ps (before n i a some low) rest
      go false ps rest = rest

  rising : (a m : ℕ) → AllPairs (λ p q. IsTrue (is_before p q)) (passing n test (range_with_len a m))
  rising a zero = λ i j d low high. absurd (omega arith)
  rising a (suc m) = subst (AllPairs (λ p q. IsTrue (is_before p q))) (sym (more n test a (range_with_len (a + 1) m))) (go (test a) (passing n test (range_with_len (a + 1) m)) (all_after a (a + 1) m (omega arith)) (rising (a + 1) m))
    where
      go : (b : Bool) (ps : List Place) → All (λ q. IsTrue (is_before (place_of n a) q)) ps → AllPairs (λ p q. IsTrue (is_before p q)) ps → AllPairs (λ p q. IsTrue (is_before p q)) (pick n b a ps)
      go true ps first rest = AllPairs-cons (λ p q. IsTrue (is_before p q)) (place_of n a) ps first rest
      go false ps first rest = rest

  inside : (a m : ℕ) → a + m ≤ n * n → All (IsOn n) (passing n test (range_with_len a m))
  inside a zero fits = All-nil _
  inside a (suc m) fits = subst (All (IsOn n)) (sym (more n test a (range_with_len (a + 1) m))) (go (test a) (passing n test (range_with_len (a + 1) m)) (inside (a + 1) m (omega arith)))
    where
      go : (b : Bool) (ps : List Place) → All (IsOn n) ps → All (IsOn n) (pick n b a ps)
      go true ps rest = All-cons (IsOn n) (place_of n a) ps (record { row_within = div_below a n n some (omega (arith, fits)); column_within = mod_below a n some }) rest
      go false ps rest = rest

  pub places_rise : AllPairs (λ p q. IsTrue (is_before p q)) (places_that n test)
  unfolding places_that
  places_rise = rising 0 (n * n)

  pub places_inside : All (IsOn n) (places_that n test)
  unfolding places_that
  places_inside = inside 0 (n * n) (omega arith)

pub is_point_set : (test : ℕ → Bool) (ps : List Place) → places_that MAX_SIZE test ≡ ps → IsPointSet ps
is_point_set test ps e = subst IsPointSet e (record { ascending = places_rise MAX_SIZE test (omega arith); within = places_inside MAX_SIZE test (omega arith) })

-- a set without its first
differs : (p q : Place) → is_before p q ≡ true → same_place p q ≡ false
differs p q h = go (nat_eq p.row q.row) (nat_eq p.column q.column) refl refl
  where
    go : (a b : Bool) → nat_eq p.row q.row ≡ a → nat_eq p.column q.column ≡ b → (a && b) ≡ false
    go true true is_a is_b =
        elim (or_cases (nat_lt p.row q.row) (nat_eq p.row q.row && nat_lt p.column q.column) h) [
          | inl above ↦ absurd (omega (arith, ltb-true p.row q.row above, eqb-true p.row q.row is_a))
          | inr level ↦ absurd (omega (arith, ltb-true p.column q.column (and_right (nat_eq p.row q.row) _ level), eqb-true p.column q.column is_b))
        ]
    go true false is_a is_b = refl
    go false b is_a is_b = refl

all_stay : (p : Place) (qs : List Place) → All (λ q. IsTrue (is_before p q)) qs → without_place qs p ≡ qs
all_stay p [] later = refl
all_stay p (q ∷ qs) later =
    without_first p q qs false (differs p q (All-head (λ r. IsTrue (is_before p r)) q qs later)) ∙ ap (λ rest. q ∷ rest) (all_stay p qs (All-tail (λ r. IsTrue (is_before p r)) q qs later))

pub first_taken : (ps : List Place) (p : Place) → first_place ps ≡ Some p → AllPairs (λ p q. IsTrue (is_before p q)) ps → ps ≡ p ∷ without_place ps p
first_taken [] p e rise = absurd (none_some p e)
first_taken (q ∷ qs) p e rise =
    ap (λ r. r ∷ qs) (some_same q p e)
    ∙ ap (λ rest. p ∷ rest) (sym (ap (without_place (q ∷ qs)) (sym (some_same q p e)) ∙ without_first q q qs true (itself q) ∙ all_stay q qs (λ k d low. rise 0 (suc k) d (omega arith) (omega (arith, low)))))
  where
    itself : (r : Place) → same_place r r ≡ true
    itself r = and_both _ _ (eq-eqb r.row r.row refl) (eq-eqb r.column r.column refl)
