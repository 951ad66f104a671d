-- The bits of some words, counted word by word; and the first of them.
use Rattle.go_points.proofs.Common.{◌≡◌, ℕ, zero, suc, ◌+◌, ◌-◌, ◌*◌, ◌/◌, ◌%◌, ◌^◌, ◌<◌, ◌≤◌, Bool, true, false, cond, nat_eq, List, ◌∷◌, ◌++◌, filter, length, get_or, Some, None, refl, sym, ◌∙◌, ap, ap₂, inl, inr, arith, range_with_len, count_by, bit_at, w64, trailing_zeros, cases_lt, true≢false, div-add-mod', mod_below, bit_at-zero, bit_at-trailing_zeros, length-map, length-range_with_len, points, place_of, has_bit, places_that, first_place, IsWords, bit_there}
use Rattle.std.proofs.Common.{count_ones}
use Rattle.std.proofs.lemmas.Simd.{ones-mask_l}
use Rattle.std.proofs.lemmas.List.Sums.{sum_by-append, sum_by-cons, length-filter, count_by-le-length}
use Rattle.go_points.specs.Private.Words.{word_that}
use Rattle.go_points.specs.Private.Inverses.{word_back}
use Rattle.go_points.proofs.PlaceSets.{places_first, places_none}

range_split : (a m k : ℕ) → range_with_len a (m + k) ≡ range_with_len a m ++ range_with_len (a + m) k
range_split a zero k =
    let here : a ≡ a + 0 = omega arith in
    let long : 0 + k ≡ k = omega arith in
    ap₂ range_with_len here long
range_split a (suc m) k =
    let long : suc m + k ≡ suc (m + k) = omega arith in
    let here : a + 1 + m ≡ a + suc m = omega arith in
    ap (range_with_len a) long ∙ ap (λ xs. a ∷ xs) (range_split (a + 1) m k ∙ ap (λ b. range_with_len (a + 1) m ++ range_with_len b k) here)

-- how many of the first bits are set
pub bits_below : List ℕ → ℕ → ℕ
bits_below words b = count_by (has_bit words) (range_with_len 0 b)

pub no_bits_below : (words : List ℕ) → bits_below words 0 ≡ 0
unfolding bits_below
no_bits_below words = refl

pub bits_few : (words : List ℕ) (b : ℕ) → bits_below words b ≤ b
unfolding bits_below
bits_few words b = omega (arith, count_by-le-length (has_bit words) (range_with_len 0 b), length-range_with_len 0 b)

bits_split : (words : List ℕ) (b k : ℕ) → bits_below words (b + k) ≡ bits_below words b + count_by (has_bit words) (range_with_len b k)
unfolding bits_below
bits_split words b k =
    let here : 0 + b ≡ b = omega arith in
    ap (count_by (has_bit words)) (range_split 0 b k ∙ ap (λ a. range_with_len 0 b ++ range_with_len a k) here)
    ∙ sum_by-append (λ i. cond (has_bit words i) 1 0) (range_with_len 0 b) (range_with_len b k)

ones_of : (words : List ℕ) (j : ℕ) → get_or words j 0 < 2 ^ 64 → count_ones (get_or words j 0) ≡ count_by (has_bit words) (range_with_len (j * 64) 64)
unfolding word_that
ones_of words j fits = ap count_ones (sym (word_back (has_bit words) 64 (j * 64) (get_or words j 0) fits (bit_there words j))) ∙ ones-mask_l (has_bit words) (range_with_len (j * 64) 64)

pub bits_more : (words : List ℕ) (j : ℕ) → get_or words j 0 < 2 ^ 64 → bits_below words (j * 64) + count_ones (get_or words j 0) ≡ bits_below words ((j + 1) * 64)
bits_more words j fits =
    let next : j * 64 + 64 ≡ (j + 1) * 64 = omega arith in
    ap (λ k. bits_below words (j * 64) + k) (ones_of words j fits) ∙ sym (bits_split words (j * 64) 64) ∙ ap (bits_below words) next

count_none : (test : ℕ → Bool) (a m : ℕ) → ((i : ℕ) → a ≤ i → test i ≡ false) → count_by test (range_with_len a m) ≡ 0
count_none test a zero none = refl
count_none test a (suc m) none = sum_by-cons (λ i. cond (test i) 1 0) a (range_with_len (a + 1) m) ∙ ap₂ (λ b k. cond b 1 0 + k) (none a (omega arith)) (count_none test (a + 1) m (λ i low. none i (omega (arith, low))))

-- the bits of all words are the points of the set
pub bits_all : (n : ℕ) (words : List ℕ) (count : ℕ) → IsWords words count (n * n) → n * n ≤ 64 * count → bits_below words (count * 64) ≡ length (places_that n (has_bit words))
unfolding bits_below places_that
bits_all n words count is room =
    let rest : n * n + (count * 64 - n * n) ≡ count * 64 = omega (arith, room) in
    let none : count_by (has_bit words) (range_with_len (n * n) (count * 64 - n * n)) ≡ 0 = count_none (has_bit words) (n * n) (count * 64 - n * n) is.rest in
    let whole : bits_below words (count * 64) ≡ bits_below words (n * n) = ap (bits_below words) (sym rest) ∙ bits_split words (n * n) (count * 64 - n * n) ∙ omega (arith, none) in
    whole ∙ sym (length-map (filter (has_bit words) (points n)) (place_of n) ∙ length-filter (has_bit words) (points n))

pub places_few : (n : ℕ) (test : ℕ → Bool) → length (places_that n test) ≤ n * n
unfolding places_that
places_few n test =
    omega (arith, length-map (filter test (points n)) (place_of n), length-filter test (points n), count_by-le-length test (points n), length-range_with_len 0 (n * n))

-- the words before the word j have no bit
unset : (words : List ℕ) (i : ℕ) → bit_at (get_or words (i / 64) 0) (i % 64) ≡ 0 → has_bit words i ≡ false
unfolding has_bit
unset words i e = ap (λ b. nat_eq b 1) e

pub none_more : (words : List ℕ) (j : ℕ) → ((i : ℕ) → i < j * 64 → has_bit words i ≡ false) → get_or words j 0 ≡ 0 → (i : ℕ) → i < (j + 1) * 64 → has_bit words i ≡ false
none_more words j none zeros i low = elim (cases_lt i (j * 64)) [
  | inl before ↦ none i before
  | inr here ↦
      (let row : i / 64 ≡ j = omega (arith, low, here, div-add-mod' i 64, mod_below i 64 (omega arith)) in
      unset words i (ap (λ k. bit_at (get_or words k 0) (i % 64)) row ∙ ap (λ w. bit_at w (i % 64)) zeros ∙ bit_at-zero (i % 64)))
]

-- the lowest bit of the first word that is not zero
module _ (words : List ℕ) (count area j : ℕ) (is : IsWords words count area) (none : (i : ℕ) → i < j * 64 → has_bit words i ≡ false) (some : 0 < get_or words j 0) where
  lowest : ℕ
  lowest = trailing_zeros w64 (get_or words j 0)

  lowest_within : lowest < 64
  unfolding lowest
  lowest_within = (bit_at-trailing_zeros w64 (get_or words j 0) some (is.fits j)).0

  lowest_set : has_bit words (j * 64 + lowest) ≡ true
  unfolding lowest
  lowest_set = bit_there words j lowest lowest_within ∙ ap (λ b. nat_eq b 1) (bit_at-trailing_zeros w64 (get_or words j 0) some (is.fits j)).1

  pub lowest_on : j * 64 + trailing_zeros w64 (get_or words j 0) < area
  unfolding lowest
  lowest_on = elim (cases_lt (j * 64 + lowest) area) [
    | inl on ↦ on
    | inr past ↦ absurd (true≢false (sym lowest_set ∙ is.rest (j * 64 + lowest) past))
  ]

  lowest_first : (i : ℕ) → i < j * 64 + lowest → has_bit words i ≡ false
  unfolding lowest
  lowest_first i low = elim (cases_lt i (j * 64)) [
    | inl before ↦ none i before
    | inr here ↦
        (let at : i % 64 < lowest = omega (arith, low, here, lowest_within, div-add-mod' i 64, mod_below i 64 (omega arith)) in
        let row : i / 64 ≡ j = omega (arith, low, here, lowest_within, div-add-mod' i 64, mod_below i 64 (omega arith)) in
        unset words i (ap (λ k. bit_at (get_or words k 0) (i % 64)) row ∙ (bit_at-trailing_zeros w64 (get_or words j 0) some (is.fits j)).2 (i % 64) at))
  ]

pub first_bit : (n : ℕ) (words : List ℕ) (count j : ℕ) → IsWords words count (n * n) → ((i : ℕ) → i < j * 64 → has_bit words i ≡ false) → 0 < get_or words j 0
    → first_place (places_that n (has_bit words)) ≡ Some (place_of n (j * 64 + trailing_zeros w64 (get_or words j 0)))
unfolding lowest
first_bit n words count j is none some =
    places_first n (has_bit words) (j * 64 + trailing_zeros w64 (get_or words j 0)) (lowest_on words count (n * n) j is none some) (lowest_set words count (n * n) j is none some) (lowest_first words count (n * n) j is none some)

pub no_first : (n : ℕ) (words : List ℕ) (count : ℕ) → n * n ≤ 64 * count → ((i : ℕ) → i < count * 64 → has_bit words i ≡ false) → first_place (places_that n (has_bit words)) ≡ None
no_first n words count room none = ap first_place (places_none n (has_bit words) (λ i low. none i (omega (arith, low, room))))
