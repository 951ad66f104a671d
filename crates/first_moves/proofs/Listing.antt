-- Lines that are appended one by one.
use Rattle.std.proofs.Common.{◌≡◌, ◌<◌, ◌+◌, ℕ, List, [], ◌∷◌, ◌++◌, drop, length, get_or, append_assoc, Result, Ok, Err, sym, ◌∙◌, ap}
use Rattle.std.specs.Prelude.{IfOk}
use Rattle.std.proofs.lemmas.List.{at_drop_more}

-- F gives a text for a list, piece by piece
pub put_more : {X : Type 0} (F : List X → List ℕ) (piece : X → List ℕ) → ((x : X) (xs : List X) → F (x ∷ xs) ≡ piece x ++ F xs)
    → (xs : List X) (i : ℕ) (d : X) → i < length xs → (have new whole : List ℕ) → new ≡ have ++ piece (get_or xs i d)
    → have ++ F (drop i xs) ≡ whole → new ++ F (drop (i + 1) xs) ≡ whole
put_more F piece step xs i d on have new whole e h =
    ap (λ z. z ++ F (drop (i + 1) xs)) e ∙ append_assoc have (piece (get_or xs i d)) (F (drop (i + 1) xs))
    ∙ sym (ap (λ z. have ++ z) (at_drop_more F xs i d on ∙ step (get_or xs i d) (drop (i + 1) xs))) ∙ h

-- what a call that makes a text gives
pub said_so : {S E : Type 0} (f : S → List ℕ) (r : Result S E) (a b : List ℕ) → IfOk r (λ s. f s ≡ a) → a ≡ b → IfOk r (λ s. f s ≡ b)
said_so f (Ok s) a b is same = is ∙ same
said_so f (Err e) a b is same = tt

-- four texts that are appended to nothing
pub put_four : (none one two three four a b c d : List ℕ) → none ≡ [] → one ≡ none ++ a → two ≡ one ++ b → three ≡ two ++ c → four ≡ three ++ d
    → four ≡ a ++ (b ++ (c ++ d))
put_four none one two three four a b c d e0 e1 e2 e3 e4 =
    e4 ∙ ap (λ z. z ++ d) (e3 ∙ ap (λ z. z ++ c) (e2 ∙ ap (λ z. z ++ b) (e1 ∙ ap (λ z. z ++ a) e0)))
    ∙ append_assoc (a ++ b) c d ∙ append_assoc a b (c ++ d)
