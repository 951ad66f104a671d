-- Definitions for the private calls that split lines and words. No public clause rests on them.
use Rattle.std.specs.Prelude.{◌≡◌, ℕ, true, false, nat_eq, List, [], ◌∷◌, Option, Some, None}
use Rattle.gtp_core.specs.Lines.{words_of}

-- No byte has this code.
abbrev pub HasNone : ℕ → List ℕ → Type 0
HasNone k [] = Unit {0}
HasNone k (c ∷ cs) = (nat_eq c k ≡ false) × HasNone k cs

-- The text ends, or begins with a space.
abbrev pub IsAtSpace : List ℕ → Type 0
IsAtSpace [] = Unit {0}
IsAtSpace (c ∷ cs) = nat_eq c 32 ≡ true

-- The text ends, or begins with a word.
abbrev pub BeginsWord : List ℕ → Type 0
BeginsWord [] = Unit {0}
BeginsWord (c ∷ cs) = nat_eq c 32 ≡ false

-- The first word with those after it, if there is one.
abbrev pub words_from : Option (List ℕ × List ℕ) → List (List ℕ)
words_from None = []
words_from (Some parts) = parts.0 ∷ words_of parts.1
