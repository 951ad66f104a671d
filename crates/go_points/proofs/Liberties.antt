-- The least point whose stone does not reach empty.
use Rattle.go_points.proofs.Common.{◌≡◌, ℕ, zero, suc, ◌+◌, ◌*◌, ◌<◌, ◌≤◌, ◌⊎◌, inl, inr, Bool, true, false, not, ◌&&◌, cond, find, is_none, replicate, Option, Some, None, List, refl, ◌∙◌, ap, arith, range_with_len, Cell, Empty, same_cell, points, cell_at, reaches, lacks_liberty, first_without_liberty}
use Rattle.go_points.proofs.Lists.{find_none}
use Rattle.go_points.proofs.Cells.{member_points}

pub none_is : {A : Type 0} (a : Option A) → is_none a ≡ true → a ≡ None
none_is None e = refl
none_is (Some x) e = absurd (cc)

find_at : (f : ℕ → Bool) (a len i : ℕ) → a ≤ i → i < a + len → ((q : ℕ) → q < i → f q ≡ false) → f i ≡ true → find f (range_with_len a len) ≡ Some i
find_at f a zero i low high before here = absurd (omega arith)
find_at f a (suc len) i low high before here =
    let split : (a ≡ i) ⊎ (a + 1 ≤ i) = grind arith in
    elim split [
      | inl same ↦ ap (λ b. cond b (Some a) (find f (range_with_len (a + 1) len))) (ap f same ∙ here) ∙ ap Some same
      | inr more ↦ ap (λ b. cond b (Some a) (find f (range_with_len (a + 1) len))) (before a (omega arith)) ∙ find_at f (a + 1) len i more (omega arith) before here
    ]

module _ (n : ℕ) (c : List Cell) where
  pub first_found : (i : ℕ) → i < n * n → ((q : ℕ) → q < i → lacks_liberty n c q ≡ false) → lacks_liberty n c i ≡ true → first_without_liberty n c ≡ Some i
  unfolding first_without_liberty
  first_found i on before here = find_at (lacks_liberty n c) 0 (n * n) i (omega arith) (omega arith) before here

  pub first_none : ((q : ℕ) → q < n * n → lacks_liberty n c q ≡ false) → first_without_liberty n c ≡ None
  unfolding first_without_liberty
  first_none all = none_is _ (find_none (lacks_liberty n c) (points n) (λ q m. all q (member_points n q m)))

  pub lacks_empty : (p : ℕ) → cell_at c p ≡ Empty → lacks_liberty n c p ≡ false
  lacks_empty p e = ap (λ a. not (same_cell a Empty) && not (reaches n c p Empty)) e

-- the colouring without stones
pub blank : (m p : ℕ) → cell_at (replicate m Empty) p ≡ Empty
blank zero p = refl
blank (suc m) zero = refl
blank (suc m) (suc p) = blank m p

pub no_stones : (n m : ℕ) → first_without_liberty n (replicate m Empty) ≡ None
no_stones n m = first_none n (replicate m Empty) (λ q on. lacks_empty n (replicate m Empty) q (blank m q))
