-- What calls of a source of lines have given.
--     line_answer l      the answer that gives this line, for which None is a malformed one
--     Gave gives s ls t      calls one after another gave the lines ls, from the source s on, and left t
--     fault_of r      the fault of an answer
--     lines_counted r      how many lines an answer counts for: a line and a fault are one, the end is none
use Rattle.std.specs.Prelude.{◌≡◌, ℕ, List, [], ◌∷◌, ◌++◌, map, Option, Some, None, Result, Ok, Err}
use Rattle.proof_cert.specs.Claim.{Claim}
use Rattle.proof_cert.specs.Lines.{Line, lines_of}
use Rattle.proof_cert.specs.Text.{text, lines}
use Rattle.proof_cert.specs.Held.{Held, held_source_of, held_gives, spelled_line}
use Rattle.proof_cert.specs.declared.source.SourceFault.{SourceFault}
use Rattle.proof_cert.specs.declared.source.SourceFault.TheVariants.{Malformed}

abbrev pub line_answer : Option Line → Result (Option Line) SourceFault
line_answer None = Err Malformed
line_answer (Some l) = Ok (Some l)

-- `gives s r t` says that a call at the source s may give r and leave t
abbrev pub Gave : {S : Type 0} → (S → Result (Option Line) SourceFault → S → Type 0) → S → List (Option Line) → S → Type 0
Gave gives s [] t = s ≡ t
Gave {S} gives s (l ∷ ls) t = (u : S) × gives s (line_answer l) u × Gave gives u ls t

abbrev pub fault_of : {A : Type 0} → Result A SourceFault → Option SourceFault
fault_of (Ok a) = None
fault_of (Err e) = Some e

abbrev pub lines_counted : {A : Type 0} → Result (Option A) SourceFault → ℕ
lines_counted (Ok None) = 0
lines_counted _ = 1

-- A certificate gives the lines of its claim in order, with None for one that has no spelling, and has given all of them when it
-- has ended.
pub record IsFrontOfClaim (z : Claim) (ls : List (Option Line)) (t : Held) : Type 0 where
  pub front : map (spelled_line z.size) (lines_of z) ≡ ls ++ t.left
  pub all : (u : Held) → held_gives t (Ok None) u → map (spelled_line z.size) (lines_of z) ≡ ls

abbrev pub LinesGivenOfClaim : Type 0
LinesGivenOfClaim = (z : Claim) (ls : List (Option Line)) (t : Held) → Gave held_gives (held_source_of z) ls t → IsFrontOfClaim z ls t

-- If the claim has a text, these are the lines of the text.
abbrev pub HeldLinesAreTheText : Type 0
HeldLinesAreTheText = (z : Claim) (bytes : List ℕ) → text z ≡ Some bytes → map (spelled_line z.size) (lines_of z) ≡ lines z.size bytes
