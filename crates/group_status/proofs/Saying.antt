-- What a call that makes a text lets be said.
use Rattle.std.proofs.Common.{◌≡◌, ℕ, List, Result, Ok, Err, sym, subst}
use Rattle.std.specs.Prelude.{IfOk}
use Rattle.go_points.specs.Place.{Place}
use Rattle.group_status.specs.Lines.{BeginsWith, HasFields}

-- what holds of a text holds of what the call gives
pub said_of : {S E : Type 0} (f : S → List ℕ) (P : List ℕ → Type 0) (r : Result S E) (a : List ℕ) → IfOk r (λ s. f s ≡ a) → P a → IfOk r (λ s. P (f s))
said_of f P (Ok s) a is holds = subst P (sym is) holds
said_of f P (Err e) a is holds = tt

-- so with a line at the beginning of a text, and with the fields of an object
pub begun_with : {S E : Type 0} (f : S → List ℕ) (P : List ℕ → Type 0) (r : Result S E) (a : List ℕ) → IfOk r (λ s. BeginsWith (λ l. l ≡ a) (f s)) → P a → IfOk r (λ s. BeginsWith P (f s))
begun_with f P (Ok s) a (line, rest, is, text) holds = (line, rest, subst P (sym is) holds, text)
begun_with f P (Err e) a begins holds = tt

pub with_fields : {S E : Type 0} (f : S → List ℕ) (n : ℕ) (t : Place) (P : List ℕ → Type 0) (r : Result S E) (a : List ℕ) → IfOk r (λ s. HasFields n t (λ l. l ≡ a) (f s)) → P a → IfOk r (λ s. HasFields n t P (f s))
with_fields f n t P (Ok s) a (fields, rest, is, text) holds = (fields, rest, subst P (sym is) holds, text)
with_fields f n t P (Err e) a has holds = tt
