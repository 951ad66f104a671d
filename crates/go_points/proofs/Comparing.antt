-- Two colourings compared: up to a point they hold the same, and the first difference decides.
use Rattle.go_points.proofs.Common.{◌≡◌, ◌≢◌, ℕ, zero, suc, ◌+◌, ◌<◌, ◌≤◌, ◌⊎◌, Bool, true, false, nat_eq, eq-eqb, eqb-true, List, [], ◌∷◌, length, inl, inr, refl, sym, ◌∙◌, ap, arith, Less, Equal, Greater, nat_cmp, pointwise, pointwise_decides, cases_lt, Cell, cell_at, side_of, same_cells, IsPacked, packed_cells, packed_side, stone_words, black_words, stones_back, blacks_back, cell_code}
use Rattle.std.proofs.Common.{Ordering}
use Rattle.std.specs.Ordering.{ordering_then}
use Rattle.std.specs.Cmp.{nat_cmp_is}
use Rattle.go_points.specs.Equal.{same_cells_eq, same_cells_refl}
use Rattle.go_points.specs.Order.{text_order}

-- The cells below a number are the same.
pub record SameBelow (c d : List Cell) (i : ℕ) : Type 0 where
  pub same : (j : ℕ) → j < i → cell_at c j ≡ cell_at d j

-- colourings are the same exactly where their sizes and their words are
module _ (n m : ℕ) (stones blacks more_stones more_blacks : List ℕ) (c d : List Cell) (packed : IsPacked n stones blacks) (also : IsPacked m more_stones more_blacks)
    (is : packed_cells n stones blacks ≡ c) (was : packed_cells m more_stones more_blacks ≡ d) where
  pub all_same : n ≡ m → stones ≡ more_stones → blacks ≡ more_blacks → same_cells c d ≡ true
  all_same e f g =
      let one : c ≡ d = sym is ∙ (λ i. packed_cells (e i) (f i) (g i)) ∙ was in
      ap (same_cells c) (sym one) ∙ same_cells_refl c

  same_colourings : same_cells c d ≡ true → packed_cells n stones blacks ≡ packed_cells m more_stones more_blacks
  same_colourings h = is ∙ same_cells_eq c d h ∙ sym was

  pub size_same : same_cells c d ≡ true → n ≡ m
  size_same h = sym (packed_side n stones blacks) ∙ ap side_of (same_colourings h) ∙ packed_side m more_stones more_blacks

  pub stones_same : same_cells c d ≡ true → stones ≡ more_stones
  stones_same h = sym (stones_back n stones blacks packed) ∙ ap stone_words (same_colourings h) ∙ stones_back m more_stones more_blacks also

  pub blacks_same : same_cells c d ≡ true → blacks ≡ more_blacks
  blacks_same h = sym (blacks_back n stones blacks packed) ∙ ap black_words (same_colourings h) ∙ blacks_back m more_stones more_blacks also

  pub unlike : (b : Bool) → b ≡ false → (same_cells c d ≡ true → b ≡ true) → b ≡ same_cells c d
  unlike b none some = none ∙ go (same_cells c d) refl
    where
      go : (a : Bool) → same_cells c d ≡ a → false ≡ a
      go false e = refl
      go true e = sym none ∙ some e

pub words_decide : (words more : List ℕ) → (pointwise nat_eq words more ≡ true → words ≡ more) × (words ≡ more → pointwise nat_eq words more ≡ true)
words_decide words more = pointwise_decides (λ x y. (eqb-true x y, eq-eqb x y)) words more

-- the order of the texts
same_code : (x : ℕ) → nat_cmp x x ≡ Equal
same_code x = sym (nat_cmp_is x x Equal refl)

then_first : (o rest : Ordering) → o ≢ Equal → ordering_then o rest ≡ o
then_first Less rest h = refl
then_first Equal rest h = absurd (h refl)
then_first Greater rest h = refl

pub order_at : (i : ℕ) (c d : List Cell) → i < length c → i < length d → SameBelow c d i → nat_cmp (cell_code (cell_at c i)) (cell_code (cell_at d i)) ≢ Equal
    → nat_cmp (cell_code (cell_at c i)) (cell_code (cell_at d i)) ≡ text_order c d
order_at i [] d low high below differ = absurd (omega (arith, low))
order_at i (a ∷ c) [] low high below differ = absurd (omega (arith, high))
order_at zero (a ∷ c) (b ∷ d) low high below differ = sym (then_first (nat_cmp (cell_code a) (cell_code b)) (text_order c d) differ)
order_at (suc i) (a ∷ c) (b ∷ d) low high below differ =
    let first : a ≡ b = below.same 0 (omega arith) in
    order_at i c d (omega (arith, low)) (omega (arith, high)) (record { same = λ j less. below.same (suc j) (omega (arith, less)) }) differ
    ∙ sym (ap (λ o. ordering_then o (text_order c d)) (ap (λ x. nat_cmp (cell_code a) (cell_code x)) (sym first) ∙ same_code (cell_code a)))

length_order : (m n : ℕ) → nat_cmp m n ≡ nat_cmp (suc m) (suc n)
length_order m n =
    let split : (m < n) ⊎ ((m ≡ n) ⊎ (n < m)) = grind arith in
    elim split [
      | inl less ↦ sym (nat_cmp_is m n Less less) ∙ nat_cmp_is (suc m) (suc n) Less (omega (arith, less))
      | inr rest ↦ elim rest [
        | inl same ↦ sym (nat_cmp_is m n Equal same) ∙ nat_cmp_is (suc m) (suc n) Equal (ap suc same)
        | inr more ↦ sym (nat_cmp_is m n Greater more) ∙ nat_cmp_is (suc m) (suc n) Greater (omega (arith, more))
      ]
    ]

pub order_whole : (c d : List Cell) (i : ℕ) → SameBelow c d i → (length c ≤ i) ⊎ (length d ≤ i) → nat_cmp (length c) (length d) ≡ text_order c d
order_whole [] [] i below end = refl
order_whole [] (b ∷ d) i below end = sym (nat_cmp_is 0 (length (b ∷ d)) Less (omega arith))
order_whole (a ∷ c) [] i below end = sym (nat_cmp_is (length (a ∷ c)) 0 Greater (omega arith))
order_whole (a ∷ c) (b ∷ d) zero below end = absurd (none end)
  where
    none : (length (a ∷ c) ≤ 0) ⊎ (length (b ∷ d) ≤ 0) → ⊥
    none (inl x) = omega (arith, x)
    none (inr x) = omega (arith, x)
order_whole (a ∷ c) (b ∷ d) (suc i) below end =
    let first : a ≡ b = below.same 0 (omega arith) in
    sym (length_order (length c) (length d))
    ∙ order_whole c d i (record { same = λ j less. below.same (suc j) (omega (arith, less)) }) (less end)
    ∙ sym (ap (λ o. ordering_then o (text_order c d)) (ap (λ x. nat_cmp (cell_code a) (cell_code x)) (sym first) ∙ same_code (cell_code a)))
  where
    less : (length (a ∷ c) ≤ suc i) ⊎ (length (b ∷ d) ≤ suc i) → (length c ≤ i) ⊎ (length d ≤ i)
    less (inl x) = inl (omega (arith, x))
    less (inr x) = inr (omega (arith, x))

pub one_cell_more : (c d : List Cell) (k : ℕ) → SameBelow c d k → cell_at c k ≡ cell_at d k → SameBelow c d (k + 1)
one_cell_more c d k below here = record {
  same = λ j low. elim (cases_lt j k) [
    | inl less ↦ below.same j less
    | inr past ↦ (let last : j ≡ k = omega (arith, low, past) in ap (cell_at c) last ∙ here ∙ ap (cell_at d) (sym last))
  ];
}
