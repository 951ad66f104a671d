-- One bit of some words is written, and the others stay.
use Rattle.go_points.proofs.Common.{◌≡◌, ◌≢◌, ℕ, zero, suc, ◌-◌, ◌*◌, ◌/◌, ◌%◌, ◌^◌, ◌<◌, ◌≤◌, Bool, true, false, nat_eq, bit_and, bit_or, List, length, length-set, get_or, set, replicate, refl, sym, ◌∙◌, ap, subst, inl, inr, arith, bit_at, w64, cases_eq, div-add-mod', mod_below, bit_at-zero, length-replicate, get_or-set_same, get_or-set_other, has_bit, IsWords}
use Rattle.std.proofs.lemmas.Nat.{and_le_l, or_lt}
use Rattle.std.proofs.lemmas.Nat.Bits.{shr_and_one, bit_at_set_same, bit_at_set_other, bit_at_clear_same, bit_at_clear_other}

other_bit : (m k : ℕ) → m ≢ k → m / 64 ≡ k / 64 → m % 64 ≡ k % 64 → ⊥
other_bit m k other row col = other (omega (arith, row, col, div-add-mod' m 64, div-add-mod' k 64))

-- the words with word k / 64 replaced by v, of which bit k % 64 is b and the others are as before
pub record Written (words : List ℕ) (k v : ℕ) (b : Bool) : Type 0 where
  pub room : k / 64 < length words
  pub fits : v < 2 ^ 64
  pub here : nat_eq (bit_at v (k % 64)) 1 ≡ b
  pub others : (i : ℕ) → i < 64 → i ≢ k % 64 → bit_at v i ≡ bit_at (get_or words (k / 64) 0) i

module _ (words : List ℕ) (k v : ℕ) (b : Bool) (is : Written words k v b) where
  pub bit_same : has_bit (set words (k / 64) v) k ≡ b
  unfolding has_bit
  bit_same = ap (λ w. nat_eq (bit_at w (k % 64)) 1) (get_or-set_same words (k / 64) v 0 is.room) ∙ is.here

  pub bit_other : (m : ℕ) → m ≢ k → has_bit (set words (k / 64) v) m ≡ has_bit words m
  unfolding has_bit
  bit_other m other = elim (cases_eq (m / 64) (k / 64)) [
    | inl row ↦
        (let word : get_or (set words (k / 64) v) (m / 64) 0 ≡ v = ap (λ j. get_or (set words (k / 64) v) j 0) row ∙ get_or-set_same words (k / 64) v 0 is.room in
        ap (λ w. nat_eq (bit_at w (m % 64)) 1) word ∙ ap (λ x. nat_eq x 1) (is.others (m % 64) (mod_below m 64 (omega arith)) (other_bit m k other row) ∙ ap (λ j. bit_at (get_or words j 0) (m % 64)) (sym row)))
    | inr apart ↦ ap (λ w. nat_eq (bit_at w (m % 64)) 1) (get_or-set_other words (k / 64) (m / 64) v 0 apart)
  ]

  pub words_kept : (count area : ℕ) → k < area → IsWords words count area → IsWords (set words (k / 64) v) count area
  words_kept count area on old = record {
    long = length-set words (k / 64) v ∙ old.long;
    fits = λ j. elim (cases_eq j (k / 64)) [
      | inl same ↦ subst (λ w. w < 2 ^ 64) (sym (ap (λ i. get_or (set words (k / 64) v) i 0) same ∙ get_or-set_same words (k / 64) v 0 is.room)) is.fits
      | inr apart ↦ subst (λ w. w < 2 ^ 64) (sym (get_or-set_other words (k / 64) j v 0 apart)) (old.fits j)
    ];
    rest = λ i past. bit_other i (λ same. absurd (omega (arith, on, past, same))) ∙ old.rest i past;
  }

-- the word with one bit more, and with one less
in_words : (count area k : ℕ) → area ≤ 64 * count → k < area → k / 64 < count
in_words count area k room on = omega (arith, div-add-mod' k 64, mod_below k 64 (omega arith))

pub bit_put : (words : List ℕ) (count area k : ℕ) → IsWords words count area → area ≤ 64 * count → k < area → Written words k (bit_or (get_or words (k / 64) 0) (1 * 2 ^ (k % 64) % 2 ^ 64)) true
bit_put words count area k is room on = record {
  room = omega (arith, in_words count area k room on, is.long);
  fits = or_lt 64 _ _ (is.fits (k / 64)) (mod_below (1 * 2 ^ (k % 64)) (2 ^ 64) (omega arith));
  here = ap (λ x. nat_eq x 1) (bit_at_set_same w64 (get_or words (k / 64) 0) (k % 64) (mod_below k 64 (omega arith)));
  others = λ i low other. bit_at_set_other w64 (get_or words (k / 64) 0) (k % 64) (mod_below k 64 (omega arith)) i other;
}

pub bit_taken : (words : List ℕ) (count area k : ℕ) → IsWords words count area → area ≤ 64 * count → k < area → Written words k (bit_and (get_or words (k / 64) 0) (2 ^ 64 - 1 - 1 * 2 ^ (k % 64) % 2 ^ 64)) false
bit_taken words count area k is room on = record {
  room = omega (arith, in_words count area k room on, is.long);
  fits = omega (arith, and_le_l (get_or words (k / 64) 0) (2 ^ 64 - 1 - 1 * 2 ^ (k % 64) % 2 ^ 64), is.fits (k / 64));
  here = ap (λ x. nat_eq x 1) (bit_at_clear_same w64 (get_or words (k / 64) 0) (k % 64) (mod_below k 64 (omega arith)));
  others = λ i low other. bit_at_clear_other w64 (get_or words (k / 64) 0) (k % 64) (mod_below k 64 (omega arith)) i low other;
}

-- what is read
pub bit_read : (words : List ℕ) (k : ℕ) → nat_eq (bit_and (get_or words (k / 64) 0 / 2 ^ (k % 64)) 1) 1 ≡ has_bit words k
unfolding has_bit
bit_read words k = ap (λ x. nat_eq x 1) (shr_and_one (get_or words (k / 64) 0) (k % 64))

-- words of zeros
pub zeros : (count j : ℕ) → get_or (replicate {A = ℕ} count 0) j 0 ≡ 0
zeros zero j = refl
zeros (suc count) zero = refl
zeros (suc count) (suc j) = zeros count j

pub no_bit : (count i : ℕ) → has_bit (replicate count 0) i ≡ false
unfolding has_bit
no_bit count i = ap (λ w. nat_eq (bit_at w (i % 64)) 1) (zeros count (i / 64)) ∙ ap (λ x. nat_eq x 1) (bit_at-zero (i % 64))

pub words_of_zeros : (count area : ℕ) → IsWords (replicate count 0) count area
words_of_zeros count area = record {
  long = length-replicate count 0;
  fits = λ j. subst (λ w. w < 2 ^ 64) (sym (zeros count j)) (omega arith);
  rest = λ i past. no_bit count i;
}
