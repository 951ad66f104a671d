-- Points pass one by one to what another colouring holds.
use Rattle.go_chains.proofs.Common.{◌≡◌, ◌≢◌, ℕ, ◌+◌, ◌*◌, ◌<◌, ◌≤◌, ◌⊎◌, inl, inr, List, sym, ◌∙◌, subst, arith, cases_eq, cases_lt, Cell, Empty, cell_at}

-- the point is empty, or as it is wanted
abbrev pub MayStay : List Cell → List Cell → ℕ → Type 0
MayStay now wanted p = (cell_at now p ≡ Empty) ⊎ (cell_at now p ≡ cell_at wanted p)

-- a stone went at a point that differs, with its chain or alone, and those up to the next difference are as they are wanted
pub stays_on : (n : ℕ) (now after wanted : List Cell) (i j : ℕ) → ((q : ℕ) → q < n * n → (cell_at after q ≡ Empty) ⊎ (cell_at after q ≡ cell_at now q)) → MayStay after wanted i
    → ((p : ℕ) → p < i → p < n * n → MayStay now wanted p) → ((p : ℕ) → i + 1 ≤ p → p < j → cell_at now p ≡ cell_at wanted p) → (p : ℕ) → p < j → p < n * n → MayStay after wanted p
stays_on n now after wanted i j emptier here before same p low on = elim (cases_lt p i) [
  | inl less ↦ go (emptier p on) (before p less on)
  | inr past ↦ elim (cases_eq p i) [
    | inl last ↦ subst (MayStay after wanted) (sym last) here
    | inr other ↦ (let later : i + 1 ≤ p = grind (arith, past, other) in go (emptier p on) (inr (same p later low)))
  ]
]
  where
    go : (cell_at after p ≡ Empty) ⊎ (cell_at after p ≡ cell_at now p) → MayStay now wanted p → MayStay after wanted p
    go (inl e) m = inl e
    go (inr e) (inl f) = inl (e ∙ f)
    go (inr e) (inr f) = inr (e ∙ f)

pub filled_on : (now wanted : List Cell) (i j : ℕ) → ((p : ℕ) → p < i → cell_at now p ≡ cell_at wanted p) → ((p : ℕ) → i ≤ p → p < j → cell_at now p ≡ cell_at wanted p) → (p : ℕ) → p < j → cell_at now p ≡ cell_at wanted p
filled_on now wanted i j before same p low = elim (cases_lt p i) [ inl less ↦ before p less | inr past ↦ same p past low ]

pub stays_filled : (n : ℕ) (now after wanted : List Cell) (i : ℕ) → cell_at after i ≡ cell_at wanted i → ((q : ℕ) → q ≢ i → cell_at after q ≡ cell_at now q)
    → ((p : ℕ) → p < n * n → MayStay now wanted p) → (p : ℕ) → p < n * n → MayStay after wanted p
stays_filled n now after wanted i here others before p on = elim (cases_eq p i) [
  | inl same ↦ inr (subst (λ z. cell_at after z ≡ cell_at wanted z) (sym same) here)
  | inr other ↦ elim (before p on) [ inl e ↦ inl (others p other ∙ e) | inr e ↦ inr (others p other ∙ e) ]
]

pub filled_more : (now after wanted : List Cell) (i : ℕ) → cell_at after i ≡ cell_at wanted i → ((q : ℕ) → q ≢ i → cell_at after q ≡ cell_at now q)
    → ((p : ℕ) → p < i → cell_at now p ≡ cell_at wanted p) → (p : ℕ) → p < i + 1 → cell_at after p ≡ cell_at wanted p
filled_more now after wanted i here others before p less = elim (cases_eq p i) [
  | inl same ↦ subst (λ z. cell_at after z ≡ cell_at wanted z) (sym same) here
  | inr other ↦ (let earlier : p < i = grind (arith, less, other) in others p other ∙ before p earlier)
]
