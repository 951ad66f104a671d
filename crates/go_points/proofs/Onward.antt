-- The first bit of some words from a bit on, and the first place of a set from a place on.
use Rattle.go_points.proofs.Common.{◌≡◌, ℕ, ◌+◌, ◌-◌, ◌*◌, ◌/◌, ◌%◌, ◌^◌, ◌<◌, ◌≤◌, Bool, true, false, ◌||◌, nat_eq, List, [], ◌∷◌, get_or, Option, Some, None, refl, sym, ◌∙◌, ap, subst, inl, inr, arith, All, bit_at, w64, trailing_zeros, cases_lt, true≢false, div-add-mod', shr-shr, shr_le, div-mul-add, mod-mul-add, All-head, All-tail, bit_at-zero, bit_at-trailing_zeros, bit_at_above, MAX_SIZE, Place, IsOn, place_of, number_of, same_place_decides, has_bit, holds_place, is_before, places_that, same_place, IsFirstFrom, IsFirstAfter, IsWords, bit_there, holds_that}
use Rattle.go_points.proofs.PlaceSets.{before, not_before}

-- the bits from a on, up to b, are not set
abbrev pub NoneFrom : List ℕ → ℕ → ℕ → Type 0
NoneFrom words a b = (i : ℕ) → a ≤ i → i < b → has_bit words i ≡ false

-- a bit of a word from its bit k on
shifted : (words : List ℕ) (j k i : ℕ) → k + i < 64 → nat_eq (bit_at (get_or words j 0 / 2 ^ k) i) 1 ≡ has_bit words (j * 64 + (k + i))
shifted words j k i low = ap (λ x. nat_eq (x % 2) 1) (shr-shr (get_or words j 0) k i) ∙ sym (bit_there words j (k + i) low)

-- the word has no bit from its bit k on
pub none_here : (words : List ℕ) (a : ℕ) → get_or words (a / 64) 0 / 2 ^ (a % 64) ≡ 0 → NoneFrom words a ((a / 64 + 1) * 64)
none_here words a gone i from low =
    let place : a / 64 * 64 + (a % 64 + (i - a)) ≡ i = omega (arith, from, div-add-mod' a 64) in
    let within : a % 64 + (i - a) < 64 = omega (arith, from, low, div-add-mod' a 64) in
    sym (ap (has_bit words) place) ∙ sym (shifted words (a / 64) (a % 64) (i - a) within) ∙ ap (λ w. nat_eq (bit_at w (i - a)) 1) gone ∙ ap (λ b. nat_eq b 1) (bit_at-zero (i - a))

pub none_further : (words : List ℕ) (a j : ℕ) → NoneFrom words a (j * 64) → get_or words j 0 ≡ 0 → NoneFrom words a ((j + 1) * 64)
none_further words a j none zeros i from low = elim (cases_lt i (j * 64)) [
  | inl early ↦ none i from early
  | inr here ↦
      (let within : i - j * 64 < 64 = omega (arith, low, here) in
      let place : j * 64 + (i - j * 64) ≡ i = omega (arith, here) in
      sym (ap (has_bit words) place) ∙ bit_there words j (i - j * 64) within ∙ ap (λ w. nat_eq (bit_at w (i - j * 64)) 1) zeros ∙ ap (λ b. nat_eq b 1) (bit_at-zero (i - j * 64)))
]

-- the first bit that is set from a on
pub record IsFirstBit (words : List ℕ) (a r : ℕ) : Type 0 where
  pub from : a ≤ r
  pub is_set : has_bit words r ≡ true
  pub none : NoneFrom words a r

pub first_on : (words : List ℕ) (count area a r : ℕ) → IsWords words count area → IsFirstBit words a r → r < area
first_on words count area a r is first = elim (cases_lt r area) [
  | inl on ↦ on
  | inr past ↦ absurd (true≢false (sym first.is_set ∙ is.rest r past))
]

module _ (words : List ℕ) (a : ℕ) (fits : (j : ℕ) → get_or words j 0 < 2 ^ 64) (some : 0 < get_or words (a / 64) 0 / 2 ^ (a % 64)) where
  front : ℕ
  front = get_or words (a / 64) 0 / 2 ^ (a % 64)

  lowest : ℕ
  lowest = trailing_zeros w64 front

  front_fits : front < 2 ^ 64
  unfolding front
  front_fits = omega (arith, fits (a / 64), shr_le (get_or words (a / 64) 0) (a % 64))

  lowest_one : bit_at (get_or words (a / 64) 0) (a % 64 + lowest) ≡ 1
  unfolding lowest front
  lowest_one = sym (ap (λ x. x % 2) (shr-shr (get_or words (a / 64) 0) (a % 64) lowest)) ∙ (bit_at-trailing_zeros w64 front some front_fits).1

  within : a % 64 + lowest < 64
  within = elim (cases_lt (a % 64 + lowest) 64) [
    | inl low ↦ low
    | inr past ↦ absurd (omega (arith, lowest_one, bit_at_above (get_or words (a / 64) 0) 64 (a % 64 + lowest) (fits (a / 64)) past))
  ]

  pub first_in_front : IsFirstBit words a (a + trailing_zeros w64 (get_or words (a / 64) 0 / 2 ^ (a % 64)))
  unfolding lowest front
  first_in_front = record {
    from = omega arith;
    is_set =
        let place : a / 64 * 64 + (a % 64 + lowest) ≡ a + lowest = omega (arith, div-add-mod' a 64) in
        sym (ap (has_bit words) place) ∙ sym (shifted words (a / 64) (a % 64) lowest within) ∙ ap (λ b. nat_eq b 1) (bit_at-trailing_zeros w64 front some front_fits).1;
    none = λ i from low.
        let place : a / 64 * 64 + (a % 64 + (i - a)) ≡ i = omega (arith, from, div-add-mod' a 64) in
        let early : i - a < lowest = omega (arith, from, low) in
        sym (ap (has_bit words) place) ∙ sym (shifted words (a / 64) (a % 64) (i - a) (omega (arith, early, within))) ∙ ap (λ b. nat_eq b 1) ((bit_at-trailing_zeros w64 front some front_fits).2 (i - a) early);
  }

pub first_in_word : (words : List ℕ) (a j : ℕ) → ((i : ℕ) → get_or words i 0 < 2 ^ 64) → a ≤ j * 64 → NoneFrom words a (j * 64) → 0 < get_or words j 0 → IsFirstBit words a (j * 64 + trailing_zeros w64 (get_or words j 0))
first_in_word words a j fits low none some =
    let t : ℕ = trailing_zeros w64 (get_or words j 0) in
    let is = bit_at-trailing_zeros w64 (get_or words j 0) some (fits j) in
    record {
      from = omega (arith, low);
      is_set = bit_there words j t is.0 ∙ ap (λ b. nat_eq b 1) is.1;
      none = λ i from high. elim (cases_lt i (j * 64)) [
        | inl early ↦ none i from early
        | inr here ↦
            (let early : i - j * 64 < t = omega (arith, here, high) in
            let place : j * 64 + (i - j * 64) ≡ i = omega (arith, here) in
            sym (ap (has_bit words) place) ∙ bit_there words j (i - j * 64) (omega (arith, early, is.0)) ∙ ap (λ b. nat_eq b 1) (is.2 (i - j * 64) early))
      ];
    }

-- the places of the set
pub place_back : (n : ℕ) (q : Place) → IsOn n q → place_of n (number_of n q) ≡ q
place_back n q on = λ i. record { row = div-mul-add q.row n q.column on.column_within i; column = mod-mul-add q.row n q.column on.column_within i }

module _ (words : List ℕ) (count a : ℕ) (is : IsWords words count (MAX_SIZE * MAX_SIZE)) where
  held : (i : ℕ) → holds_place (places_that MAX_SIZE (has_bit words)) (place_of MAX_SIZE i) ≡ has_bit words i
  held i = holds_that MAX_SIZE (has_bit words) i (is.rest i)

  pub first_place_from : (r : ℕ) → IsFirstBit words a r → IsFirstFrom (places_that MAX_SIZE (has_bit words)) (place_of MAX_SIZE a) (Some (place_of MAX_SIZE r))
  first_place_from r first = (
    held r ∙ first.is_set,
    not_before MAX_SIZE a r (omega arith) first.from,
    λ q on there on_or_after.
        let i : ℕ = number_of MAX_SIZE q in
        let back : place_of MAX_SIZE i ≡ q = place_back MAX_SIZE q on in
        let set : has_bit words i ≡ true = sym (held i) ∙ ap (holds_place (places_that MAX_SIZE (has_bit words))) back ∙ there in
        let later : a ≤ i = elim (cases_lt i a) [
          | inl early ↦ absurd (true≢false (sym (before MAX_SIZE i a (omega arith) early) ∙ ap (λ p. is_before p (place_of MAX_SIZE a)) back ∙ on_or_after))
          | inr late ↦ late
        ] in
        elim (cases_lt i r) [
          | inl early ↦ absurd (true≢false (sym set ∙ first.none i later early))
          | inr late ↦ sym (ap (λ p. is_before p (place_of MAX_SIZE r)) back) ∙ not_before MAX_SIZE r i (omega arith) late
        ],
  )

  pub no_place_from : (b : ℕ) → MAX_SIZE * MAX_SIZE ≤ b → NoneFrom words a b → IsFirstFrom (places_that MAX_SIZE (has_bit words)) (place_of MAX_SIZE a) None
  no_place_from b whole none = λ q on there.
      let i : ℕ = number_of MAX_SIZE q in
      let back : place_of MAX_SIZE i ≡ q = place_back MAX_SIZE q on in
      let set : has_bit words i ≡ true = sym (held i) ∙ ap (holds_place (places_that MAX_SIZE (has_bit words))) back ∙ there in
      elim (cases_lt i a) [
        | inl early ↦ sym (ap (λ p. is_before p (place_of MAX_SIZE a)) back) ∙ before MAX_SIZE i a (omega arith) early
        | inr late ↦ elim (cases_lt i b) [
          | inl inside ↦ absurd (true≢false (sym set ∙ none i late inside))
          | inr past ↦ absurd (true≢false (sym set ∙ is.rest i (omega (arith, past, whole))))
        ]
      ]

-- The first place after one is the first from the next number on.
held_on : (ps : List Place) (r : Place) → All (IsOn MAX_SIZE) ps → holds_place ps r ≡ true → IsOn MAX_SIZE r
held_on [] r all held = absurd (true≢false (sym held))
held_on (q ∷ qs) r all held = go (same_place r q) refl (λ h. held_on qs r (All-tail (IsOn MAX_SIZE) q qs all) h) held
  where
    go : (b : Bool) → same_place r q ≡ b → (holds_place qs r ≡ true → IsOn MAX_SIZE r) → (b || holds_place qs r) ≡ true → IsOn MAX_SIZE r
    go true e later h = subst (IsOn MAX_SIZE) (sym ((same_place_decides r q).0 e)) (All-head (IsOn MAX_SIZE) q qs all)
    go false e later h = later h

-- a place is before the next number exactly if this number is not before it
not_after : (k : ℕ) (q : Place) → IsOn MAX_SIZE q → is_before q (place_of MAX_SIZE (k + 1)) ≡ true → is_before (place_of MAX_SIZE k) q ≡ false
not_after k q on early =
    let i : ℕ = number_of MAX_SIZE q in
    let back : place_of MAX_SIZE i ≡ q = place_back MAX_SIZE q on in
    elim (cases_lt k i) [
      | inl later ↦ absurd (true≢false (sym early ∙ sym (ap (λ p. is_before p (place_of MAX_SIZE (k + 1))) back) ∙ not_before MAX_SIZE (k + 1) i (omega arith) (omega (arith, later))))
      | inr low ↦ sym (ap (is_before (place_of MAX_SIZE k)) back) ∙ not_before MAX_SIZE i k (omega arith) low
    ]

not_early : (k : ℕ) (q : Place) → IsOn MAX_SIZE q → is_before (place_of MAX_SIZE k) q ≡ true → is_before q (place_of MAX_SIZE (k + 1)) ≡ false
not_early k q on later =
    let i : ℕ = number_of MAX_SIZE q in
    let back : place_of MAX_SIZE i ≡ q = place_back MAX_SIZE q on in
    elim (cases_lt k i) [
      | inl high ↦ sym (ap (λ p. is_before p (place_of MAX_SIZE (k + 1))) back) ∙ not_before MAX_SIZE (k + 1) i (omega arith) (omega (arith, high))
      | inr low ↦ absurd (true≢false (sym later ∙ sym (ap (is_before (place_of MAX_SIZE k)) back) ∙ not_before MAX_SIZE i k (omega arith) low))
    ]

is_after : (k : ℕ) (q : Place) → IsOn MAX_SIZE q → is_before q (place_of MAX_SIZE (k + 1)) ≡ false → is_before (place_of MAX_SIZE k) q ≡ true
is_after k q on late =
    let i : ℕ = number_of MAX_SIZE q in
    let back : place_of MAX_SIZE i ≡ q = place_back MAX_SIZE q on in
    elim (cases_lt k i) [
      | inl high ↦ sym (ap (is_before (place_of MAX_SIZE k)) back) ∙ before MAX_SIZE k i (omega arith) high
      | inr low ↦ absurd (true≢false (sym (before MAX_SIZE i (k + 1) (omega arith) (omega (arith, low))) ∙ ap (λ p. is_before p (place_of MAX_SIZE (k + 1))) back ∙ late))
    ]

pub first_place_after : (ps : List Place) (k : ℕ) (o : Option Place) → All (IsOn MAX_SIZE) ps → IsFirstFrom ps (place_of MAX_SIZE (k + 1)) o → IsFirstAfter ps (place_of MAX_SIZE k) o
first_place_after ps k None all first = λ q on there. not_after k q on (first q on there)
first_place_after ps k (Some r) all first = (
  first.0,
  is_after k r (held_on ps r all first.0) first.1,
  λ q on there later. first.2 q on there (not_early k q on later),
)
