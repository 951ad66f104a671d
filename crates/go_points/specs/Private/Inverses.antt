-- `words_of` gives back the words of a set. These are proofs. They stand here because the impls in `src` cite them, and a reader
-- may skip them.
use Rattle.std.proofs.Common.{◌≡◌, ℕ, zero, suc, ◌+◌, ◌*◌, ◌/◌, ◌%◌, ◌^◌, ◌<◌, ◌≤◌, Bool, true, false, cond, ◌&&◌, ◌||◌, nat_eq, eqb-true, eq-eqb, List, [], ◌∷◌, map, filter, get_or, refl, sym, ◌∙◌, ap, ap₂, subst, inl, inr, ◌⊎◌, arith}
use Rattle.std.specs.List.{list_any, range_with_len}
use Rattle.std.specs.Int.{bit_at}
use Rattle.std.specs.Simd.Lanes.{mask_l}
use Rattle.std.proofs.lemmas.Simd.{mask_l-lt, bit_mask_l}
use Rattle.std.proofs.lemmas.Bool.{cases_lt, true≢false}
use Rattle.std.proofs.lemmas.Nat.{div-add-mod', div-mul-add, mod-mul-add}
use Rattle.std.proofs.lemmas.Nat.Bits.{same_from_bits_below, bit_at-lt}
use Rattle.std.proofs.lemmas.List.FromFn.{fill_by_all, get_or-map-range_with_len, length-map-range_with_len}
use Rattle.go_points.specs.Grid.{points}
use Rattle.go_points.specs.Place.{place_of}
use Rattle.go_points.specs.Points.{same_place, holds_place, places_that, has_bit}
use Rattle.go_points.specs.Private.Words.{word_that, words_that, IsWords}

-- two points are the same if their numbers are
pub same_numbers : (n i k : ℕ) → same_place (place_of n i) (place_of n k) ≡ nat_eq i k
same_numbers n i k = go (nat_eq (i / n) (k / n)) (nat_eq (i % n) (k % n)) (nat_eq i k) refl refl refl
  where
    go : (a b c : Bool) → nat_eq (i / n) (k / n) ≡ a → nat_eq (i % n) (k % n) ≡ b → nat_eq i k ≡ c → (a && b) ≡ c
    go true true true e f g = refl
    go true true false e f g =
        sym (sym g ∙ eq-eqb i k (sym (div-add-mod' i n) ∙ ap₂ (λ r c. r * n + c) (eqb-true _ _ e) (eqb-true _ _ f) ∙ div-add-mod' k n))
    go true false true e f g = sym f ∙ eq-eqb (i % n) (k % n) (ap (λ m. m % n) (eqb-true i k g))
    go true false false e f g = refl
    go false b true e f g = sym e ∙ eq-eqb (i / n) (k / n) (ap (λ m. m / n) (eqb-true i k g))
    go false b false e f g = refl

-- a point of a list of numbers is held exactly if its number is in the list and passes
holds_of : (n : ℕ) (test : ℕ → Bool) (i : ℕ) (xs : List ℕ) → holds_place (map (place_of n) (filter test xs)) (place_of n i) ≡ (list_any (nat_eq i) xs && test i)
holds_of n test i [] = refl
holds_of n test i (x ∷ xs) = go (test x) refl (nat_eq i x) refl (list_any (nat_eq i) xs) (holds_of n test i xs)
  where
    held : List ℕ → Bool
    held ys = holds_place (map (place_of n) ys) (place_of n i)

    go : (b : Bool) → test x ≡ b → (s : Bool) → nat_eq i x ≡ s → (a : Bool) → held (filter test xs) ≡ (a && test i) → held (cond b (x ∷ filter test xs) (filter test xs)) ≡ ((s || a) && test i)
    go true e true f a h = ap (λ v. v || held (filter test xs)) (same_numbers n i x ∙ f) ∙ sym (ap test (eqb-true i x f) ∙ e)
    go true e false f a h = ap (λ v. v || held (filter test xs)) (same_numbers n i x ∙ f) ∙ h
    go false e true f true h = h
    go false e true f false h = h ∙ sym (ap test (eqb-true i x f) ∙ e)
    go false e false f a h = h

any_in : (i a m : ℕ) → a ≤ i → i < a + m → list_any (nat_eq i) (range_with_len a m) ≡ true
any_in i a zero low high = absurd (omega arith)
any_in i a (suc m) low high = go (nat_eq i a) refl (λ more. any_in i (a + 1) m more (omega arith))
  where
    go : (b : Bool) → nat_eq i a ≡ b → (a + 1 ≤ i → list_any (nat_eq i) (range_with_len (a + 1) m) ≡ true) → (b || list_any (nat_eq i) (range_with_len (a + 1) m)) ≡ true
    go true e further = refl
    go false e further =
        let split : (i ≡ a) ⊎ (a + 1 ≤ i) = grind arith in
        elim split [ inl same ↦ absurd (true≢false (sym (eq-eqb i a same) ∙ e)) | inr more ↦ further more ]

any_past : (i a m : ℕ) → a + m ≤ i → list_any (nat_eq i) (range_with_len a m) ≡ false
any_past i a zero past = refl
any_past i a (suc m) past = go (nat_eq i a) refl (any_past i (a + 1) m (omega arith))
  where
    go : (b : Bool) → nat_eq i a ≡ b → list_any (nat_eq i) (range_with_len (a + 1) m) ≡ false → (b || list_any (nat_eq i) (range_with_len (a + 1) m)) ≡ false
    go true e further = absurd (omega (arith, eqb-true i a e))
    go false e further = further

-- a set holds exactly the points that pass
pub holds_that : (n : ℕ) (test : ℕ → Bool) (i : ℕ) → (n * n ≤ i → test i ≡ false) → holds_place (places_that n test) (place_of n i) ≡ test i
unfolding places_that
holds_that n test i rest = holds_of n test i (points n) ∙ elim (cases_lt i (n * n)) [
  | inl on ↦ ap (λ b. b && test i) (any_in i 0 (n * n) (omega arith) (omega arith))
  | inr off ↦ ap (λ b. b && test i) (any_past i 0 (n * n) (omega arith)) ∙ sym (rest off)
]

-- the words again
word_bit : (test : ℕ → Bool) (bits a i : ℕ) → i < bits → bit_at (word_that test bits a) i ≡ cond (test (a + i)) 1 0
unfolding word_that
word_bit test bits a i low = bit_mask_l (map test (range_with_len a bits)) i ∙ ap (λ b. cond b 1 0) (get_or-map-range_with_len test a bits i (a + i) false low refl)

one_or_zero : (b : ℕ) → b < 2 → cond (nat_eq b 1) 1 0 ≡ b
one_or_zero b low = go (nat_eq b 1) refl
  where
    go : (v : Bool) → nat_eq b 1 ≡ v → cond v 1 0 ≡ b
    go true e = sym (eqb-true b 1 e)
    go false e =
        let split : (b ≡ 1) ⊎ (b ≡ 0) = grind arith in
        elim split [ inl one ↦ absurd (true≢false (sym (eq-eqb b 1 one) ∙ e)) | inr none ↦ sym none ]

pub word_back : (test : ℕ → Bool) (bits a word : ℕ) → word < 2 ^ bits → ((i : ℕ) → i < bits → test (a + i) ≡ nat_eq (bit_at word i) 1) → word_that test bits a ≡ word
unfolding word_that
word_back test bits a word fits same =
    let small : mask_l (map test (range_with_len a bits)) < 2 ^ bits = subst (λ k. mask_l (map test (range_with_len a bits)) < 2 ^ k) (length-map-range_with_len test a bits) (mask_l-lt (map test (range_with_len a bits))) in
    same_from_bits_below bits (word_that test bits a) word small fits (λ i low. word_bit test bits a i low ∙ ap (λ b. cond b 1 0) (same i low) ∙ one_or_zero (bit_at word i) (bit_at-lt word i))

pub bit_there : (words : List ℕ) (j i : ℕ) → i < 64 → has_bit words (j * 64 + i) ≡ nat_eq (bit_at (get_or words j 0) i) 1
unfolding has_bit
bit_there words j i low = ap₂ (λ a b. nat_eq (bit_at (get_or words a 0) b) 1) (div-mul-add j 64 i low) (mod-mul-add j 64 i low)

pub words_back : (n : ℕ) (words : List ℕ) (count : ℕ) → IsWords words count (n * n) → words_that (λ i. holds_place (places_that n (has_bit words)) (place_of n i)) count ≡ words
unfolding words_that
words_back n words count is =
    sym (fill_by_all _ words count 0 is.long (λ j low. sym (word_back _ 64 (j * 64) (get_or words j 0) (is.fits j) (λ i small. holds_that n (has_bit words) (j * 64 + i) (is.rest (j * 64 + i)) ∙ bit_there words j i small))))
