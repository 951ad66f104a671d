-- Laws of writing and reading the parts of a line. Each is proved, and the calls of the module `laws` name them. For colourings,
-- the corresponding law is in the crate below.
use Rattle.std.specs.Prelude.{◌≡◌, ℕ, List, Some, IsTrue, decimal}
use Rattle.go_points.specs.Ply.{Ply}
use Rattle.proof_cert.specs.Lines.{Line, turn_fits}
use Rattle.proof_cert.specs.Text.{is_spelled_number, number_of, vertex_text, vertex_of, is_spelled, line_bytes, line_of}

-- A number that a line can hold reads back from its digits, and bytes that read as a number are its digits.
abbrev pub NumbersReadBack : Type 0
NumbersReadBack = (k : ℕ) → IsTrue (is_spelled_number k) → number_of (decimal k) ≡ Some k

abbrev pub ReadNumbersAreTheirDigits : Type 0
ReadNumbersAreTheirDigits = (bytes : List ℕ) (k : ℕ) → number_of bytes ≡ Some k → IsTrue (is_spelled_number k) × (decimal k ≡ bytes)

-- The corresponding law for a turn on its board.
abbrev pub TurnsReadBack : Type 0
TurnsReadBack = (n : ℕ) (t : Ply) → IsTrue (turn_fits n t) → vertex_of n (vertex_text n t) ≡ Some t

abbrev pub ReadTurnsAreTheirLetters : Type 0
ReadTurnsAreTheirLetters = (n : ℕ) (bytes : List ℕ) (t : Ply) → vertex_of n bytes ≡ Some t → IsTrue (turn_fits n t) × (vertex_text n t ≡ bytes)

-- The corresponding law for a whole line.
abbrev pub LinesReadBack : Type 0
LinesReadBack = (n : ℕ) (l : Line) → IsTrue (is_spelled n (Some l)) → line_of n (line_bytes n l) ≡ Some l

abbrev pub ReadLinesAreTheirBytes : Type 0
ReadLinesAreTheirBytes = (n : ℕ) (bytes : List ℕ) (l : Line) → line_of n bytes ≡ Some l → IsTrue (is_spelled n (Some l)) × (line_bytes n l ≡ bytes)
