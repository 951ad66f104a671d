-- What the words of a colouring say of it: its size, each cell, and one cell written.
use Rattle.go_points.proofs.Common.{◌≡◌, ◌≢◌, ℕ, zero, suc, ◌*◌, ◌<◌, ◌≤◌, Bool, false, not, List, length, length-set, get_or, set, replicate, inl, inr, refl, sym, ◌∙◌, ap, ap₂, subst, mul-le-mul, arith, cases_eq, ext_get_or, get_or-set_same, get_or-set_other, length-replicate, MAX_SIZE, MAX_POINTS, Cell, Empty, Stone, Black, White, cell_at, same_cell, side_of, Place, IsOn, number_of, has_bit, word_count, IsWords, IsPacked, cell_of_bits, is_stone, is_black, packed_cells, packed_side, packed_length, packed_at}
use Rattle.go_points.specs.Grid.{IsColouring}
use Rattle.go_points.specs.Packed.{packed_cell}
use Rattle.go_points.proofs.Bits.{no_bit, words_of_zeros}
use Rattle.go_points.proofs.Sides.{number_below}

-- the words of a board are words of the widest
pub within_widest : (n : ℕ) → n ≤ MAX_SIZE → n * n ≤ MAX_POINTS
within_widest n most = omega (arith, mul-le-mul most most)

module _ (n : ℕ) (stones blacks : List ℕ) (c : List Cell) (packed : IsPacked n stones blacks) (is : packed_cells n stones blacks ≡ c) where
  pub side_packed : side_of c ≡ n
  side_packed = ap side_of (sym is) ∙ packed_side n stones blacks

  pub length_packed : length c ≡ n * n
  length_packed = ap length (sym is) ∙ packed_length n stones blacks

  pub colouring_packed : IsColouring (side_of c) c
  colouring_packed = subst (λ (m : ℕ). IsColouring m c) (sym side_packed) (record { full = length_packed; least = packed.least; most = packed.most })

  pub on_packed : (p : Place) → IsOn (side_of c) p → IsOn n p
  on_packed p on = subst (λ (m : ℕ). IsOn m p) side_packed on

  pub below_packed : (i : ℕ) → i < side_of c * side_of c → i < n * n
  below_packed i low = subst (λ (m : ℕ). i < m * m) side_packed low

  pub room_packed : (i : ℕ) → i < side_of c * side_of c → i < MAX_POINTS
  room_packed i low = omega (arith, below_packed i low, within_widest n packed.most)

  pub number_packed : (p : Place) → IsOn (side_of c) p → number_of (side_of c) p < side_of c * side_of c
  number_packed p on = number_below (side_of c) p on

  pub same_number : (p : Place) (i : ℕ) → i ≡ number_of n p → i ≡ number_of (side_of c) p
  same_number p i e = e ∙ ap (λ (m : ℕ). number_of m p) (sym side_packed)

  pub cell_packed : (i : ℕ) (s b : Bool) → i < side_of c * side_of c → s ≡ has_bit stones i → b ≡ has_bit blacks i → cell_at c i ≡ cell_of_bits s b
  cell_packed i s b low is_s is_b =
      ap (λ (d : List Cell). cell_at d i) (sym is) ∙ packed_at n stones blacks i (below_packed i low) ∙ ap₂ cell_of_bits (sym is_s) (sym is_b)

-- one cell is written
bits_of : (a : Cell) → cell_of_bits (is_stone a) (is_black a) ≡ a
bits_of Empty = refl
bits_of (Stone Black) = refl
bits_of (Stone White) = refl

black_stone : (a : Cell) → is_stone a ≡ false → is_black a ≡ false
black_stone Empty h = refl
black_stone (Stone k) h = absurd (cc)

pub stone_test : (a : Cell) → not (same_cell a Empty) ≡ is_stone a
stone_test Empty = refl
stone_test (Stone k) = refl

pub black_test : (a : Cell) → same_cell a (Stone Black) ≡ is_black a
black_test Empty = refl
black_test (Stone Black) = refl
black_test (Stone White) = refl

-- old words, new words, and one bit that is now that of the cell a
pub record IsWrittenAt (n k : ℕ) (a : Cell) (stones blacks more_stones more_blacks : List ℕ) : Type 0 where
  pub stone : has_bit more_stones k ≡ is_stone a
  pub black : has_bit more_blacks k ≡ is_black a
  pub other_stones : (i : ℕ) → i ≢ k → has_bit more_stones i ≡ has_bit stones i
  pub other_blacks : (i : ℕ) → i ≢ k → has_bit more_blacks i ≡ has_bit blacks i
  pub of_stones : IsWords more_stones word_count (n * n)
  pub of_blacks : IsWords more_blacks word_count (n * n)

module _ (n k : ℕ) (a : Cell) (stones blacks more_stones more_blacks : List ℕ) (packed : IsPacked n stones blacks) (written : IsWrittenAt n k a stones blacks more_stones more_blacks) where
  pub written_packed : IsPacked n more_stones more_blacks
  written_packed = record {
    least = packed.least;
    most = packed.most;
    of_stones = written.of_stones;
    of_blacks = written.of_blacks;
    within = λ i none. elim (cases_eq i k) [
      | inl same ↦ ap (has_bit more_blacks) same ∙ written.black ∙ black_stone a (sym written.stone ∙ ap (has_bit more_stones) (sym same) ∙ none)
      | inr other ↦ written.other_blacks i other ∙ packed.within i (sym (written.other_stones i other) ∙ none)
    ];
  }

  pub written_cells : k < n * n → packed_cells n more_stones more_blacks ≡ set (packed_cells n stones blacks) k a
  written_cells on =
      let long = packed_length n more_stones more_blacks in
      let old_long = packed_length n stones blacks in
      ext_get_or Empty (packed_cells n more_stones more_blacks) (set (packed_cells n stones blacks) k a)
      (long ∙ sym (length-set (packed_cells n stones blacks) k a ∙ old_long))
      (λ i low. let below : i < n * n = omega (arith, low, long) in
      packed_at n more_stones more_blacks i below ∙ elim (cases_eq i k) [
        | inl same ↦ ap (packed_cell more_stones more_blacks) same ∙ ap₂ cell_of_bits written.stone written.black ∙ bits_of a
            ∙ sym (ap (λ j. get_or (set (packed_cells n stones blacks) k a) j Empty) same ∙ get_or-set_same (packed_cells n stones blacks) k a Empty (omega (arith, on, old_long)))
        | inr other ↦ ap₂ cell_of_bits (written.other_stones i other) (written.other_blacks i other)
            ∙ sym (get_or-set_other (packed_cells n stones blacks) k i a Empty other ∙ packed_at n stones blacks i below)
      ])

-- the empty colouring
pub no_cells : (n : ℕ) → 1 ≤ n → n ≤ MAX_SIZE → IsPacked n (replicate word_count 0) (replicate word_count 0)
no_cells n least most = record {
  least = least;
  most = most;
  of_stones = words_of_zeros word_count (n * n);
  of_blacks = words_of_zeros word_count (n * n);
  within = λ i none. no_bit word_count i;
}

empties : (n i : ℕ) → get_or (replicate {A = Cell} n Empty) i Empty ≡ Empty
empties zero i = refl
empties (suc n) zero = refl
empties (suc n) (suc i) = empties n i

pub empty_cells : (n : ℕ) → packed_cells n (replicate word_count 0) (replicate word_count 0) ≡ replicate (n * n) Empty
empty_cells n =
    let zeros = replicate {A = ℕ} word_count 0 in
    let long = packed_length n zeros zeros in
    ext_get_or Empty (packed_cells n zeros zeros) (replicate (n * n) Empty) (long ∙ sym (length-replicate (n * n) Empty))
    (λ i low. packed_at n zeros zeros i (omega (arith, low, long)) ∙ ap (λ s. cell_of_bits s (has_bit zeros i)) (no_bit word_count i) ∙ sym (empties (n * n) i))
