-- The bytes of lines.
use Rattle.std.specs.Prelude.{ℕ, List, [], ◌∷◌, ◌++◌, Option, Some, None, flat_map}
use Rattle.proof_cert.specs.Lines.{Line}
use Rattle.proof_cert.specs.Text.{line_bytes, line_feed}

-- the bytes of lines that have a spelling
abbrev pub line_text : ℕ → Option Line → List ℕ
line_text n None = []
line_text n (Some l) = line_bytes n l ++ line_feed ∷ []

abbrev pub lines_text : ℕ → List (Option Line) → List ℕ
lines_text n ls = flat_map (line_text n) ls
