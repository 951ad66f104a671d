-- The first bit in which two words differ, or two others.
use Rattle.go_points.proofs.Common.{◌≡◌, ◌≢◌, ℕ, ◌+◌, ◌-◌, ◌*◌, ◌/◌, ◌%◌, ◌^◌, ◌<◌, ◌≤◌, Bool, true, false, nat_eq, eq-eqb, eqb-true, bit_or, List, get_or, inl, inr, refl, sym, ◌∙◌, ap, ap₂, arith, bit_at, w64, trailing_zeros, cases_lt, shr-shr, shr_le, div-add-mod', mod_below, div-mul-add, mod-mul-add, bit_at-zero, bit_at-trailing_zeros, bit_at_above, cell_at, has_bit, AreAlike, IsPacked, cell_of_bits, packed_cells, packed_at, is_stone, is_black}
use Rattle.std.proofs.Common.{bit_xor}
use Rattle.std.proofs.lemmas.Nat.Bits.{bit_at-lt, bit_at_or, bit_at_xor}
use Rattle.go_points.specs.Packed.{packed_past}

-- the bits of a word from one on
shifted : (word from i : ℕ) → bit_at (word / 2 ^ from) i ≡ bit_at word (from + i)
shifted word from i = ap (λ m. m % 2) (shr-shr word from i)

pub none_set : (word from i : ℕ) → word / 2 ^ from ≡ 0 → from ≤ i → bit_at word i ≡ 0
none_set word from i none later =
    let at : from + (i - from) ≡ i = omega (arith, later) in
    ap (bit_at word) (sym at) ∙ sym (shifted word from (i - from)) ∙ ap (λ w. bit_at w (i - from)) none ∙ bit_at-zero (i - from)

module _ (word from : ℕ) (fits : word < 2 ^ 64) (some : 0 < word / 2 ^ from) where
  rest_fits : word / 2 ^ from < 2 ^ 64
  rest_fits = omega (arith, fits, shr_le word from)

  pub lowest_set : bit_at word (from + trailing_zeros w64 (word / 2 ^ from)) ≡ 1
  lowest_set = sym (shifted word from (trailing_zeros w64 (word / 2 ^ from))) ∙ (bit_at-trailing_zeros w64 (word / 2 ^ from) some rest_fits).1

  pub lowest_within : from + trailing_zeros w64 (word / 2 ^ from) < 64
  lowest_within = elim (cases_lt (from + trailing_zeros w64 (word / 2 ^ from)) 64) [
    | inl within ↦ within
    | inr past ↦ absurd (omega (arith, lowest_set, bit_at_above word 64 (from + trailing_zeros w64 (word / 2 ^ from)) fits past))
  ]

  pub unset_below : (i : ℕ) → from ≤ i → i < from + trailing_zeros w64 (word / 2 ^ from) → bit_at word i ≡ 0
  unset_below i later low =
      let at : from + (i - from) ≡ i = omega (arith, later) in
      ap (bit_at word) (sym at) ∙ sym (shifted word from (i - from)) ∙ (bit_at-trailing_zeros w64 (word / 2 ^ from) some rest_fits).2 (i - from) (omega (arith, later, low))

-- what a bit of the words' differences says
pub both_alike : (a b c d i : ℕ) → bit_at (bit_or (bit_xor a b) (bit_xor c d)) i ≡ 0 → (bit_at a i ≡ bit_at b i) × (bit_at c i ≡ bit_at d i)
both_alike a b c d i none =
    let all = bit_at_or (bit_xor a b) (bit_xor c d) i in
    let first = bit_at_xor a b i in
    let second = bit_at_xor c d i in (
      omega (arith, none, all, first, bit_at-lt a i, bit_at-lt b i),
      omega (arith, none, all, second, bit_at-lt c i, bit_at-lt d i),
    )

pub not_both : (a b c d i : ℕ) → bit_at (bit_or (bit_xor a b) (bit_xor c d)) i ≡ 1 → bit_at a i ≡ bit_at b i → bit_at c i ≡ bit_at d i → ⊥
not_both a b c d i some e f =
    let all = bit_at_or (bit_xor a b) (bit_xor c d) i in
    let first = bit_at_xor a b i in
    let second = bit_at_xor c d i in
    omega (arith, some, all, first, second, e, f, bit_at-lt a i, bit_at-lt b i, bit_at-lt c i, bit_at-lt d i)

same_bits : (x y : ℕ) → x < 2 → y < 2 → nat_eq x 1 ≡ nat_eq y 1 → x ≡ y
same_bits x y low high e = go (nat_eq y 1) refl
  where
    go : (b : Bool) → nat_eq y 1 ≡ b → x ≡ y
    go true f = eqb-true x 1 (e ∙ f) ∙ sym (eqb-true y 1 f)
    go false f =
        let not_x : x ≢ 1 = λ g. cc (eq-eqb x 1 g, e, f) in
        let not_y : y ≢ 1 = λ g. cc (eq-eqb y 1 g, f) in
        grind (arith, low, high, not_x, not_y)

-- the bits of one word that say of which points they differ
module _ (bits others more more_others : List ℕ) (word j : ℕ) (is : word ≡ bit_or (bit_xor (get_or bits j 0) (get_or others j 0)) (bit_xor (get_or more j 0) (get_or more_others j 0))) where
  alike_in : (k : ℕ) → bit_at word k ≡ 0 → (bit_at (get_or bits j 0) k ≡ bit_at (get_or others j 0) k) × (bit_at (get_or more j 0) k ≡ bit_at (get_or more_others j 0) k)
  alike_in k none = both_alike (get_or bits j 0) (get_or others j 0) (get_or more j 0) (get_or more_others j 0) k (sym (ap (λ w. bit_at w k) is) ∙ none)

  alike_at : (i : ℕ) → i / 64 ≡ j → bit_at word (i % 64) ≡ 0 → AreAlike bits others more more_others i
  unfolding has_bit
  alike_at i row none =
      let both = alike_in (i % 64) none in
      record {
        first = ap (λ r. nat_eq (bit_at (get_or bits r 0) (i % 64)) 1) row ∙ ap (λ b. nat_eq b 1) both.0 ∙ ap (λ r. nat_eq (bit_at (get_or others r 0) (i % 64)) 1) (sym row);
        second = ap (λ r. nat_eq (bit_at (get_or more r 0) (i % 64)) 1) row ∙ ap (λ b. nat_eq b 1) both.1 ∙ ap (λ r. nat_eq (bit_at (get_or more_others r 0) (i % 64)) 1) (sym row);
      }

  -- the bits from at on, up to one that is set
  pub alike_up_to : (at bit : ℕ) → at / 64 ≡ j → bit ≤ 64 → ((k : ℕ) → at % 64 ≤ k → k < bit → bit_at word k ≡ 0) → (i : ℕ) → at ≤ i → i < j * 64 + bit → AreAlike bits others more more_others i
  alike_up_to at bit row most unset i later low =
      let at_split = div-add-mod' at 64 in
      let i_split = div-add-mod' i 64 in
      let i_within = mod_below i 64 (omega arith) in
      let i_row : i / 64 ≡ j = omega (arith, row, most, later, low, at_split, i_split, i_within) in
      alike_at i i_row (unset (i % 64) (omega (arith, row, i_row, later, at_split, i_split)) (omega (arith, i_row, low, i_split)))

  pub unlike_there : (bit : ℕ) → bit < 64 → bit_at word bit ≡ 1 → AreAlike bits others more more_others (j * 64 + bit) → ⊥
  unfolding has_bit
  unlike_there bit low some alike =
      let row = div-mul-add j 64 bit low in
      let column = mod-mul-add j 64 bit low in
      let first : nat_eq (bit_at (get_or bits j 0) bit) 1 ≡ nat_eq (bit_at (get_or others j 0) bit) 1 =
      sym (ap₂ (λ r k. nat_eq (bit_at (get_or bits r 0) k) 1) row column) ∙ alike.first ∙ ap₂ (λ r k. nat_eq (bit_at (get_or others r 0) k) 1) row column in
      let second : nat_eq (bit_at (get_or more j 0) bit) 1 ≡ nat_eq (bit_at (get_or more_others j 0) bit) 1 =
      sym (ap₂ (λ r k. nat_eq (bit_at (get_or more r 0) k) 1) row column) ∙ alike.second ∙ ap₂ (λ r k. nat_eq (bit_at (get_or more_others r 0) k) 1) row column in
      not_both (get_or bits j 0) (get_or others j 0) (get_or more j 0) (get_or more_others j 0) bit (sym (ap (λ w. bit_at w bit) is) ∙ some)
      (same_bits _ _ (bit_at-lt (get_or bits j 0) bit) (bit_at-lt (get_or others j 0) bit) first)
      (same_bits _ _ (bit_at-lt (get_or more j 0) bit) (bit_at-lt (get_or more_others j 0) bit) second)

-- from the start on, where they are alike up to the word's first bits
pub alike_on : (bits others more more_others : List ℕ) (from at bit : ℕ) → bit ≤ 64
    → ((k : ℕ) → at % 64 ≤ k → k < bit → bit_at (bit_or (bit_xor (get_or bits (at / 64) 0) (get_or others (at / 64) 0)) (bit_xor (get_or more (at / 64) 0) (get_or more_others (at / 64) 0))) k ≡ 0)
    → ((i : ℕ) → from ≤ i → i < at → AreAlike bits others more more_others i) → (i : ℕ) → from ≤ i → i < at / 64 * 64 + bit → AreAlike bits others more more_others i
alike_on bits others more more_others from at bit most unset before i later low = elim (cases_lt i at) [
  | inl less ↦ before i later less
  | inr on ↦ alike_up_to bits others more more_others _ (at / 64) refl at bit refl most unset i on low
]

-- colourings of one size, point by point
module _ (n : ℕ) (stones blacks more_stones more_blacks : List ℕ) where
  pub cells_alike : (i : ℕ) → AreAlike stones more_stones blacks more_blacks i → cell_at (packed_cells n stones blacks) i ≡ cell_at (packed_cells n more_stones more_blacks) i
  cells_alike i alike = elim (cases_lt i (n * n)) [
    | inl on ↦ packed_at n stones blacks i on ∙ ap₂ cell_of_bits alike.first alike.second ∙ sym (packed_at n more_stones more_blacks i on)
    | inr off ↦ packed_past n stones blacks i off ∙ sym (packed_past n more_stones more_blacks i off)
  ]

  pub alike_cells : IsPacked n stones blacks → IsPacked n more_stones more_blacks → (i : ℕ) → i < n * n → cell_at (packed_cells n stones blacks) i ≡ cell_at (packed_cells n more_stones more_blacks) i → AreAlike stones more_stones blacks more_blacks i
  alike_cells packed also i on same =
      let cells : cell_of_bits (has_bit stones i) (has_bit blacks i) ≡ cell_of_bits (has_bit more_stones i) (has_bit more_blacks i) = sym (packed_at n stones blacks i on) ∙ same ∙ packed_at n more_stones more_blacks i on in
      record {
        first = sym (stone_of (has_bit stones i) (has_bit blacks i)) ∙ ap is_stone cells ∙ stone_of (has_bit more_stones i) (has_bit more_blacks i);
        second = sym (black_of (has_bit stones i) (has_bit blacks i) (packed.within i)) ∙ ap is_black cells ∙ black_of (has_bit more_stones i) (has_bit more_blacks i) (also.within i);
      }
    where
      stone_of : (s b : Bool) → is_stone (cell_of_bits s b) ≡ s
      stone_of false b = refl
      stone_of true false = refl
      stone_of true true = refl

      black_of : (s b : Bool) → (s ≡ false → b ≡ false) → is_black (cell_of_bits s b) ≡ b
      black_of false b h = sym (h refl)
      black_of true false h = refl
      black_of true true h = refl
