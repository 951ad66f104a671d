-- A test of some element, as a loop goes over the list.
use Rattle.go_points.proofs.Common.{◌≡◌, ℕ, zero, suc, ◌<◌, Bool, true, false, List, [], ◌∷◌, map, length, get_or, refl, sym, arith, list_any}
use Rattle.go_points.proofs.Lists.{or_left, or_right}

module _ {X Y : Type 0} (test : Y → Bool) (f : X → Y) where
  pub any_yes : (xs : List X) (i : ℕ) (d : X) → i < length xs → test (f (get_or xs i d)) ≡ true → list_any test (map f xs) ≡ true
  any_yes [] i d h here = absurd (omega arith)
  any_yes (x ∷ xs) zero d h here = or_left (test (f x)) (list_any test (map f xs)) here
  any_yes (x ∷ xs) (suc i) d h here = or_right (test (f x)) (list_any test (map f xs)) (any_yes xs i d (omega arith) here)

-- two tests that pass together
pub same_tests : (a b : Bool) → (a ≡ true → b ≡ true) → (b ≡ true → a ≡ true) → a ≡ b
same_tests true b f g = sym (f refl)
same_tests false true f g = g refl
same_tests false false f g = refl
