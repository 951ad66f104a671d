-- A colouring of at most 19 rows says the same in its first words.
use Rattle.go_points.proofs.Common.{◌≡◌, ℕ, ◌+◌, ◌*◌, ◌/◌, ◌%◌, ◌<◌, ◌≤◌, ◌^◌, false, nat_eq, List, length, length-set, get_or, set, replicate, sym, ◌∙◌, ap, ap₂, subst, inl, inr, mul-le-mul, arith, cases_eq, cases_lt, ext_get_or, get_or_past, get_or-set_same, get_or-set_other, length-replicate, get_or-map-range_with_len, length-map-range_with_len, div-add-mod', bit_at-zero, bit_at, NARROW_SIZE, Empty, has_bit, word_count, IsWords, IsPacked, cell_of_bits, packed_cells, packed_length, packed_at, narrow_count, first_words, IsNarrow}
use Rattle.go_points.proofs.Bits.{zeros}

-- words that are the same at a place say the same of its bits, and none past their end says anything
same_bit : (v w : List ℕ) (i : ℕ) → get_or v (i / 64) 0 ≡ get_or w (i / 64) 0 → has_bit v i ≡ has_bit w i
unfolding has_bit
same_bit v w i e = ap (λ a. nat_eq (bit_at a (i % 64)) 1) e

bit_past : (w : List ℕ) (i : ℕ) → length w ≤ i / 64 → has_bit w i ≡ false
unfolding has_bit
bit_past w i past = ap (λ a. nat_eq (bit_at a (i % 64)) 1) (get_or_past w (i / 64) 0 past) ∙ ap (λ x. nat_eq x 1) (bit_at-zero (i % 64))

-- the words at each place
first_length : (count : ℕ) (w : List ℕ) → length (first_words count w) ≡ count
unfolding first_words
first_length count w = length-map-range_with_len (λ j. get_or w j 0) 0 count

first_at : (count : ℕ) (w : List ℕ) (j : ℕ) → j < count → get_or (first_words count w) j 0 ≡ get_or w j 0
unfolding first_words
first_at count w j low = get_or-map-range_with_len (λ j. get_or w j 0) 0 count j j 0 low (omega arith)

pub wide_at : (w : List ℕ) → length w ≡ narrow_count → (j : ℕ) → get_or (first_words word_count w) j 0 ≡ get_or w j 0
wide_at w long j = elim (cases_lt j word_count) [
  | inl on ↦ first_at word_count w j on
  | inr off ↦ get_or_past (first_words word_count w) j 0 (omega (arith, off, first_length word_count w)) ∙ sym (get_or_past w j 0 (omega (arith, off, long)))
]

-- the same bits
within_narrow : (n : ℕ) → n ≤ NARROW_SIZE → n * n ≤ NARROW_SIZE * NARROW_SIZE
within_narrow n most = mul-le-mul most most

narrow_bit : (n : ℕ) (w : List ℕ) → n ≤ NARROW_SIZE → IsWords w word_count (n * n) → (i : ℕ) → has_bit (first_words narrow_count w) i ≡ has_bit w i
narrow_bit n w most is i = elim (cases_lt (i / 64) narrow_count) [
  | inl on ↦ same_bit (first_words narrow_count w) w i (first_at narrow_count w (i / 64) on)
  | inr off ↦ bit_past (first_words narrow_count w) i (omega (arith, off, first_length narrow_count w)) ∙ sym (is.rest i (omega (arith, off, within_narrow n most, div-add-mod' i 64)))
]

wide_bit : (w : List ℕ) → length w ≡ narrow_count → (i : ℕ) → has_bit (first_words word_count w) i ≡ has_bit w i
wide_bit w long i = same_bit (first_words word_count w) w i (wide_at w long (i / 64))

narrow_is : (n : ℕ) (w : List ℕ) → n ≤ NARROW_SIZE → IsWords w word_count (n * n) → IsWords (first_words narrow_count w) narrow_count (n * n)
narrow_is n w most is = record {
  long = first_length narrow_count w;
  fits = λ j. elim (cases_lt j narrow_count) [
    | inl on ↦ subst (λ a. a < 2 ^ 64) (sym (first_at narrow_count w j on)) (is.fits j)
    | inr off ↦ subst (λ a. a < 2 ^ 64) (sym (get_or_past (first_words narrow_count w) j 0 (omega (arith, off, first_length narrow_count w)))) (omega arith)
  ];
  rest = λ i past. narrow_bit n w most is i ∙ is.rest i past;
}

wide_is : (n : ℕ) (w : List ℕ) → IsWords w narrow_count (n * n) → IsWords (first_words word_count w) word_count (n * n)
wide_is n w is = record {
  long = first_length word_count w;
  fits = λ j. subst (λ a. a < 2 ^ 64) (sym (wide_at w is.long j)) (is.fits j);
  rest = λ i past. wide_bit w is.long i ∙ is.rest i past;
}

-- the same cells
same_packed : (n : ℕ) (v w x y : List ℕ) → ((i : ℕ) → has_bit v i ≡ has_bit x i) → ((i : ℕ) → has_bit w i ≡ has_bit y i) → packed_cells n v w ≡ packed_cells n x y
same_packed n v w x y stones blacks =
    let long = packed_length n v w in
    ext_get_or Empty (packed_cells n v w) (packed_cells n x y) (long ∙ sym (packed_length n x y))
    (λ i low. let below : i < n * n = omega (arith, low, long) in
    packed_at n v w i below ∙ ap₂ cell_of_bits (stones i) (blacks i) ∙ sym (packed_at n x y i below))

module _ (n : ℕ) (stones blacks : List ℕ) (packed : IsPacked n stones blacks) (most : n ≤ NARROW_SIZE) where
  pub narrowed : IsNarrow n (first_words narrow_count stones) (first_words narrow_count blacks)
  narrowed = record {
    least = packed.least;
    most = most;
    of_stones = narrow_is n stones most packed.of_stones;
    of_blacks = narrow_is n blacks most packed.of_blacks;
    within = λ i none. narrow_bit n blacks most packed.of_blacks i ∙ packed.within i (sym (narrow_bit n stones most packed.of_stones i) ∙ none);
  }

  pub narrow_cells : packed_cells n (first_words narrow_count stones) (first_words narrow_count blacks) ≡ packed_cells n stones blacks
  narrow_cells = same_packed n (first_words narrow_count stones) (first_words narrow_count blacks) stones blacks (narrow_bit n stones most packed.of_stones) (narrow_bit n blacks most packed.of_blacks)

module _ (n : ℕ) (stones blacks : List ℕ) (narrow : IsNarrow n stones blacks) where
  pub widened : IsPacked n (first_words word_count stones) (first_words word_count blacks)
  widened = record {
    least = narrow.least;
    most = omega (arith, narrow.most);
    of_stones = wide_is n stones narrow.of_stones;
    of_blacks = wide_is n blacks narrow.of_blacks;
    within = λ i none. wide_bit blacks narrow.of_blacks.long i ∙ narrow.within i (sym (wide_bit stones narrow.of_stones.long i) ∙ none);
  }

  pub wide_cells : packed_cells n (first_words word_count stones) (first_words word_count blacks) ≡ packed_cells n stones blacks
  wide_cells = same_packed n (first_words word_count stones) (first_words word_count blacks) stones blacks (wide_bit stones narrow.of_stones.long) (wide_bit blacks narrow.of_blacks.long)

-- words are copied one by one, and those after them are zero
pub record IsCopied (from to : List ℕ) (count index : ℕ) : Type 0 where
  pub long : length to ≡ count
  pub copied : (j : ℕ) → j < index → get_or to j 0 ≡ get_or from j 0
  pub rest : (j : ℕ) → index ≤ j → get_or to j 0 ≡ 0

pub none_copied : (from : List ℕ) (count : ℕ) → IsCopied from (replicate count 0) count 0
none_copied from count = record {
  long = length-replicate count 0;
  copied = λ j low. absurd (omega (arith, low));
  rest = λ j more. zeros count j;
}

module _ (from to : List ℕ) (count index : ℕ) (is : IsCopied from to count index) where
  pub one_copied : (v : ℕ) → index < count → v ≡ get_or from index 0 → IsCopied from (set to index v) count (index + 1)
  one_copied v low value = record {
    long = length-set to index v ∙ is.long;
    copied = λ j less. elim (cases_eq j index) [
      | inl same ↦ ap (λ k. get_or (set to index v) k 0) same ∙ get_or-set_same to index v 0 (omega (arith, low, is.long)) ∙ value ∙ ap (λ k. get_or from k 0) (sym same)
      | inr other ↦ get_or-set_other to index j v 0 other ∙ is.copied j (omega (arith, less, other))
    ];
    rest = λ j more. get_or-set_other to index j v 0 (λ same. absurd (omega (arith, more, same))) ∙ is.rest j (omega (arith, more));
  }

  pub all_copied : ((j : ℕ) → index ≤ j → j < count → get_or from j 0 ≡ 0) → to ≡ first_words count from
  all_copied end =
      ext_get_or 0 to (first_words count from) (is.long ∙ sym (first_length count from))
      (λ j low. let below : j < count = omega (arith, low, is.long) in
      elim (cases_lt j index) [
        | inl less ↦ is.copied j less ∙ sym (first_at count from j below)
        | inr more ↦ is.rest j more ∙ sym (end j more below) ∙ sym (first_at count from j below)
      ])
