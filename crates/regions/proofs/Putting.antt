-- What points hold while stones are put up, one number after the other.
use Rattle.std.proofs.Common.{◌≡◌, ℕ, ◌+◌, ◌<◌, List, length, slice_set, inl, inr, ◌∙◌, subst, arith}
use Rattle.std.proofs.lemmas.Bool.{cases_lt}
use Rattle.std.proofs.lemmas.List.{get_or-set_same, get_or-set_other}
use Rattle.go_points.specs.declared.Cell.{Cell}
use Rattle.go_points.specs.declared.Cell.TheVariants.{Empty}
use Rattle.go_points.specs.Grid.{cell_at}

-- the numbers below the next one hold what they are to hold
pub put_next : (xs : List Cell) (n : ℕ) (c : Cell) (f : ℕ → Cell) → n < length xs → ((i : ℕ) → i < n → cell_at xs i ≡ f i) → c ≡ f n
    → (i : ℕ) → i < n + 1 → cell_at (slice_set xs n c) i ≡ f i
put_next xs n c f room before last i low = elim (cases_lt i n) [
  | inl lower ↦ get_or-set_other xs n i c Empty (λ e. absurd (omega (arith, lower, e))) ∙ before i lower
  | inr here ↦
      (let same : n ≡ i = omega (arith, low, here) in
      subst (λ (j : ℕ). cell_at (slice_set xs n c) j ≡ f j) same (get_or-set_same xs n c Empty room ∙ last))
]
