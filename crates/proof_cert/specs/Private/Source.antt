-- A source of lines, and what one call of it gives and leaves.
--     Source      the board's size, the lines that are left (None for a malformed one), the number of the line or fault
--                 that was answered last, and whether it was a fault
--     source_of n text      before the first call
--     answer s, later s      what a call gives, and the source after it
--     answer_value n r      what a call of the program gave
use Rattle.std.specs.Prelude.{ℕ, suc, Bool, true, false, List, [], ◌∷◌, Option, Some, None, Result, Ok, Err, option_map}
use Rattle.proof_cert.specs.Lines.{Line}
use Rattle.proof_cert.specs.Text.{lines}
use Rattle.proof_cert.specs.Stage.{line_value}
use Rattle.proof_cert.specs.declared.line.Line as code
use Rattle.proof_cert.specs.declared.source.SourceFault.{SourceFault}
use Rattle.proof_cert.specs.declared.source.SourceFault.TheVariants.{Malformed}

pub record Source : Type 0 where
  pub size : ℕ
  pub left : List (Option Line)
  pub number : ℕ
  pub has_failed : Bool

abbrev pub source_of : ℕ → List ℕ → Source
source_of n text = record { size = n; left = lines n text; number = 0; has_failed = false }

-- A line; None after the last; and at a malformed line a fault, which stays.
abbrev pub answer_from : Bool → List (Option Line) → Result (Option Line) SourceFault
answer_from true ls = Err Malformed
answer_from false [] = Ok None
answer_from false (Some l ∷ ls) = Ok (Some l)
answer_from false (None ∷ ls) = Err Malformed

abbrev pub later_from : Source → Bool → List (Option Line) → Source
later_from s true ls = s
later_from s false [] = s
later_from s false (Some l ∷ ls) = record s { left = ls; number = suc s.number }
later_from s false (None ∷ ls) = record s { left = ls; number = suc s.number; has_failed = true }

abbrev pub answer : Source → Result (Option Line) SourceFault
answer s = answer_from s.has_failed s.left

abbrev pub later : Source → Source
later s = later_from s s.has_failed s.left

abbrev pub answer_value : ℕ → Result (Option code.Line) SourceFault → Result (Option Line) SourceFault
answer_value n (Ok l) = Ok (option_map (line_value n) l)
answer_value n (Err fault) = Err fault
