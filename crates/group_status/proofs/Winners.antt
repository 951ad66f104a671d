-- What a list holds at a place that was looked up.
use Rattle.std.specs.Prelude.{HoldsAt}
use Rattle.std.proofs.Common.{◌≡◌, ℕ, ◌<◌, ◌≤◌, List, length, Option, Some, IfSome, MatchOption, Bor, slice_get, slice_index_or, refl, subst}
use Rattle.std.proofs.lemmas.Option.{slice_get_read}

pub found_at : {X : Type 0} (xs : List X) (k : ℕ) (r : Option (Bor X)) (b : Bor X) → IfSome r (λ x. x.now ≡ slice_index_or xs k x.now) → MatchOption r (length xs ≤ k) (λ x. (k < length xs) × HoldsAt (λ y. x.now ≡ y) xs k) → r ≡ Some b → slice_get xs k ≡ Some b.now
found_at xs k r b is within same =
    slice_get_read xs (length xs) k b.now refl
    (subst (λ o. MatchOption o (length xs ≤ k) (λ x. (k < length xs) × HoldsAt (λ y. x.now ≡ y) xs k)) same within).0
    (subst (λ o. IfSome o (λ x. x.now ≡ slice_index_or xs k x.now)) same is)
