-- What the definition of an opening gives, by whether the present colouring has its liberties.
use Rattle.go_turns.proofs.Common.{◌≡◌, ℕ, Option, Some, Err, sym, ◌∙◌, ap, subst, Place, IsOn, number_of, NoLiberty, Moment, with_liberties, reopened, Opens}
pub use Rattle.go_points.proofs.Onward.{place_back}

module _ (n : ℕ) (found : Option ℕ) (m : Moment) where
  pub opens_refused : (p : Place) → found ≡ Some (number_of n p) → IsOn n p → Opens n (with_liberties n found m) (Err (NoLiberty p))
  opens_refused p first on = subst (λ o. Opens n (with_liberties n o m) (Err (NoLiberty p))) (sym first) (ap NoLiberty (sym (place_back n p on)))

  pub reopens_refused : (p : Place) → found ≡ Some (number_of n p) → IsOn n p → reopened n (with_liberties n found m) ≡ Err (NoLiberty p)
  reopens_refused p first on = ap (λ o. reopened n (with_liberties n o m)) first ∙ ap (λ q. Err (NoLiberty q)) (place_back n p on)
