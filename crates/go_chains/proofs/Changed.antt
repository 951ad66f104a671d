-- Where every stone reached empty, one that does not any more stands at or beside a new stone.
use Rattle.go_chains.proofs.Common.{◌≡◌, ◌≢◌, ℕ, ◌+◌, ◌<◌, ◌≤◌, Bool, true, false, not, ◌&&◌, ◌⊎◌, inl, inr, None, is_none, List, [], ◌∷◌, refl, sym, ◌∙◌, ap, subst, arith, cases_eq, cases_lt, Cell, Empty, same_cell, adjacent, points, cell_at, reaches, IsPath, Reaches, lacks_liberty, first_without_liberty, not_false, none_found, same_cell_eq, eq_same_cell, same_cell_false, points_member, adjacent_back, adjacent_on_board, first_none, lacks_empty, reaches_path, LivesAround}
use Rattle.go_points.proofs.Lists.{and_false, true_or_false}
use Rattle.go_chains.specs.Private.Chains.{LivesWhereNew}

cell_or_not : (a b : Cell) → (a ≡ b) ⊎ (a ≢ b)
cell_or_not a b = elim (true_or_false (same_cell a b)) [
  | inl same ↦ inl (same_cell_eq a b same)
  | inr other ↦ inr (λ e. cc (eq_same_cell a b e, other))
]

-- a stone that does not lack liberties reaches empty, and one that reaches empty does not lack them
free_stone : (n : ℕ) (c : List Cell) (p : ℕ) → cell_at c p ≢ Empty → lacks_liberty n c p ≡ false → Reaches n c p Empty
free_stone n c p stone lives =
    (reaches_path n c p Empty).0 (not_false (reaches n c p Empty) (and_false (not (same_cell (cell_at c p) Empty)) (not (reaches n c p Empty)) lives (ap not (same_cell_false (cell_at c p) Empty stone))))

stone_free : (n : ℕ) (c : List Cell) (p : ℕ) → Reaches n c p Empty → lacks_liberty n c p ≡ false
stone_free n c p r = ap (λ b. not (same_cell (cell_at c p) Empty) && not b) ((reaches_path n c p Empty).1 r) ∙ none (not (same_cell (cell_at c p) Empty))
  where
    none : (a : Bool) → (a && false) ≡ false
    none true = refl
    none false = refl

-- what is asked at a point, and of the points up to the next difference
abbrev pub LivesAt : ℕ → List Cell → List Cell → ℕ → Type 0
LivesAt n b c p = (cell_at c p ≡ cell_at b p) ⊎ (cell_at c p ≡ Empty) ⊎ LivesAround n c p

pub lives_on : (n : ℕ) (b c : List Cell) (i j : ℕ) → ((p : ℕ) → p < i → LivesAt n b c p) → LivesAt n b c i → ((p : ℕ) → i + 1 ≤ p → p < j → cell_at c p ≡ cell_at b p) → (p : ℕ) → p < j → LivesAt n b c p
lives_on n b c i j before here same p low = elim (cases_lt p i) [
  | inl less ↦ before p less
  | inr past ↦ elim (cases_eq p i) [
    | inl last ↦ subst (LivesAt n b c) (sym last) here
    | inr other ↦ (let later : i + 1 ≤ p = grind (arith, past, other) in inl (same p later low))
  ]
]

module _ (n : ℕ) (b c : List Cell) (live : LivesWhereNew n b c) where
  one_step : (own : Cell) → own ≢ Empty → (p q : ℕ) → adjacent n p q ≡ true → cell_at c p ≡ own → cell_at c q ≡ own → Reaches n c q Empty → Reaches n c p Empty
  one_step own stone p q adj is also r = ((λ e. stone (sym is ∙ e)), (q ∷ r.1.0, (refl, adj, subst (λ o. IsPath n c o Empty q r.1.0) (also ∙ sym is) r.1.1)))

  last_step : (own : Cell) → own ≢ Empty → (p q : ℕ) → adjacent n p q ≡ true → cell_at c p ≡ own → cell_at c q ≡ Empty → Reaches n c p Empty
  last_step own stone p q adj is free = ((λ e. stone (sym is ∙ e)), (q ∷ [], (refl, adj, free)))

  -- a path of the other colouring leads to empty, or to a new stone that it stands beside
  along : (own : Cell) → own ≢ Empty → (p : ℕ) (qs : List ℕ) → cell_at b p ≡ own → cell_at c p ≡ own → IsPath n b own Empty p qs → Reaches n c p Empty
  along own stone p [] was is path = absurd (stone (sym was ∙ path))
  along own stone p (q ∷ qs) was is path =
      elim (live q (adjacent_on_board n p q path.1).1) [
        | inl same ↦ go qs path.2 same (along own stone q qs)
        | inr new ↦ elim new [
          | inl free ↦ last_step own stone p q path.1 is free
          | inr around ↦ free_stone n c p (λ e. stone (sym is ∙ e)) (around.beside p (adjacent_back n p q path.1))
        ]
      ]
    where
      go : (qs : List ℕ) → IsPath n b own Empty q qs → cell_at c q ≡ cell_at b q → (cell_at b q ≡ own → cell_at c q ≡ own → IsPath n b own Empty q qs → Reaches n c q Empty) → Reaches n c p Empty
      go [] ends same onward = last_step own stone p q path.1 is (same ∙ ends)
      go (r ∷ rs) goes same onward = one_step own stone p q path.1 is (same ∙ goes.0) (onward goes.0 (same ∙ goes.0) goes)

  still : (p : ℕ) → cell_at c p ≡ cell_at b p → cell_at c p ≢ Empty → Reaches n b p Empty → Reaches n c p Empty
  still p same stone r = along (cell_at b p) (λ e. stone (same ∙ e)) p r.1.0 refl same r.1.1

  pub all_live : first_without_liberty n b ≡ None → first_without_liberty n c ≡ None
  unfolding first_without_liberty
  all_live none = first_none n c (λ p on. elim (cell_or_not (cell_at c p) Empty) [
    | inl free ↦ lacks_empty n c p free
    | inr stone ↦ elim (live p on) [
      | inl same ↦ stone_free n c p (still p same stone (free_stone n b p (λ e. stone (same ∙ e)) (none_found (lacks_liberty n b) p (points n) (ap is_none none) (points_member n p on))))
      | inr new ↦ elim new [
        | inl free ↦ lacks_empty n c p free
        | inr around ↦ around.here
      ]
    ]
  ])
