-- Elements taken over one by one.
use Rattle.std.proofs.Common.{◌≡◌, ℕ, zero, suc, ◌+◌, List, [], ◌∷◌, ◌++◌, take, Some, slice_get, sym, ◌∙◌, ap, arith}

next_taken : {X : Type 0} (xs : List X) (i : ℕ) (x : X) → slice_get xs i ≡ Some x → take (suc i) xs ≡ take i xs ++ x ∷ []
next_taken [] i x e = absurd (cc)
next_taken (y ∷ ys) zero x e = let same : y ≡ x = cc e in ap (λ z. z ∷ []) same
next_taken (y ∷ ys) (suc i) x e = ap (λ zs. y ∷ zs) (next_taken ys i x e)

pub taken_more : {X : Type 0} (xs ys : List X) (i : ℕ) (x : X) → ys ≡ take i xs → slice_get xs i ≡ Some x → ys ++ x ∷ [] ≡ take (i + 1) xs
taken_more xs ys i x had at = let next : suc i ≡ i + 1 = omega arith in ap (λ zs. zs ++ x ∷ []) had ∙ sym (next_taken xs i x at) ∙ ap (λ k. take k xs) next
