-- What the bytes of a claim mean: a line is read as the one that it spells.
--     IsLineOf n p l      a piece of a text, for a board of n rows, is this line; None if it spells no line
--     HasVerdict q bytes v      the verdict on a claim for a problem
use Rattle.std.specs.Prelude.{◌≡◌, ℕ, Bool, true, List, [], ◌∷◌, Option, Some, None}
use Rattle.target_game.specs.State.{GameProblem}
use Rattle.proof_cert.specs.Lines.{Line}
use Rattle.proof_cert.specs.Text.{spelling_of, pieces}
use Rattle.cert_check.specs.Verdict.{Verdict, verdict}

-- The piece is the line's spelling, and a line feed ends it.
abbrev pub IsLineOf : ℕ → List ℕ × Bool → Option Line → Type 0
IsLineOf n p (Some l) = (spelling_of n l ≡ Some p.0) × (p.1 ≡ true)
IsLineOf n p None = (l : Line) → spelling_of n l ≡ Some p.0 → p.1 ≡ true → ⊥

abbrev pub AreLinesOf : ℕ → List (List ℕ × Bool) → List (Option Line) → Type 0
AreLinesOf n [] [] = Unit {0}
AreLinesOf n (p ∷ ps) (l ∷ ls) = IsLineOf n p l × AreLinesOf n ps ls
AreLinesOf n _ _ = ⊥

-- the verdict on the lines that the bytes spell
abbrev pub HasVerdict : GameProblem → List ℕ → Verdict → Type 0
HasVerdict q bytes v = (ls : List (Option Line)) × AreLinesOf q.game.size (pieces bytes) ls × (verdict q ls ≡ v)
