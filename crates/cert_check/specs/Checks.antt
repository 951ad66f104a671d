-- What a source of lines gave to the checker, and what the checker answers.
--     Took gives n s ls t      calls one after another gave these lines of the program, from the source s of size n on, and left t
--     Answers gives t r      a call may give this answer there
--     Accepts, RejectsAt, FailsAt, IsReached      the answers, by the lines taken
--     AcceptsBy, RejectsAtBy, FailsAtBy, IsReachedBy      the same of a short claim, with the shape that it may rest on
--     Asked gives s k t      k calls one after another took the source from s to t
--     AsksTo gives s place t      the same, for no more calls than the number of this line
use Rattle.std.specs.Prelude.{◌≡◌, ℕ, zero, suc, ◌+◌, ◌^◌, ◌<◌, ◌≤◌, ◌⊎◌, Bool, List, ◌++◌, length, Option, None, Result, Ok, Err}
use Rattle.go_points.specs.declared.Colour.{Colour}
use Rattle.go_points.specs.declared.Cell.{Cell}
use Rattle.target_game.specs.State.{GameProblem}
use Rattle.proof_cert.specs.Lines.{Line}
use Rattle.proof_cert.specs.Given.{Gave}
use Rattle.proof_cert.specs.Text.{lines}
use Rattle.proof_cert.specs.Streamed.{Tells, reader_gives, streamed_of}
use Rattle.proof_cert.specs.declared.line.Line as code
use Rattle.proof_cert.specs.declared.source.SourceFault.{SourceFault}
use Rattle.proof_cert.specs.declared.source.SourceFault.TheVariants.{Read}
use Rattle.cert_check.specs.Body.{Why, nowhere}
use Rattle.cert_check.specs.Verdict.{verdict_by, verdict, accepted, rejected}
use Rattle.cert_check.specs.Parts.{line_values}

abbrev pub Took : {S : Type 0} → (S → Result (Option Line) SourceFault → S → Type 0) → ℕ → S → List (Option code.Line) → S → Type 0
Took gives n s ls t = Gave gives s (line_values n ls) t

abbrev pub Answers : {S : Type 0} → (S → Result (Option Line) SourceFault → S → Type 0) → S → Result (Option Line) SourceFault → Type 0
Answers {S} gives t r = (u : S) × gives t r u

-- The source has ended, and the verdict on its lines is this winner.
pub record AcceptsBy {S : Type 0} (shape : List Cell → Bool) (gives : S → Result (Option Line) SourceFault → S → Type 0) (n : ℕ) (q : GameProblem) (s : S) (x : Colour) : Type 0 where
  pub taken : List (Option code.Line)
  pub left : S
  pub took : Took gives n s taken left
  pub ended : Answers gives left (Ok None)
  pub accepted : verdict_by shape q (line_values q.game.size taken) ≡ accepted x

-- The verdict on the lines taken is this fault; the source has ended, or the faulty line is one of them, and no further line counts.
pub record RejectsAtBy {S : Type 0} (shape : List Cell → Bool) (gives : S → Result (Option Line) SourceFault → S → Type 0) (n : ℕ) (q : GameProblem) (s : S) (place : ℕ) (why : Why) : Type 0 where
  pub taken : List (Option code.Line)
  pub left : S
  pub took : Took gives n s taken left
  pub there : Answers gives left (Ok None) ⊎ (place ≤ length taken)
  pub rejected : verdict_by shape q (line_values q.game.size taken) ≡ rejected place why

-- The line of this number could not be read, and those before it have no fault.
pub record FailsAtBy {S : Type 0} (shape : List Cell → Bool) (gives : S → Result (Option Line) SourceFault → S → Type 0) (number : S → ℕ) (n : ℕ) (q : GameProblem) (s : S) (place : ℕ) : Type 0 where
  pub taken : List (Option code.Line)
  pub left : S
  pub took : Took gives n s taken left
  pub counted : number left ≡ number s + length taken
  pub few : length taken < 2 ^ 63
  pub failed : Answers gives left (Err Read)
  pub behind : place ≡ suc (length taken)
  pub faultless : (p : ℕ) (w : Why) → verdict_by shape q (line_values q.game.size taken) ≡ rejected p w → length taken < p

-- The lines before the one of this number have no fault.
pub record IsReachedBy {S : Type 0} (shape : List Cell → Bool) (gives : S → Result (Option Line) SourceFault → S → Type 0) (n : ℕ) (q : GameProblem) (s : S) (place : ℕ) : Type 0 where
  pub taken : List (Option code.Line)
  pub left : S
  pub took : Took gives n s taken left
  pub behind : place ≡ suc (length taken)
  pub faultless : (p : ℕ) (w : Why) → verdict_by shape q (line_values q.game.size taken) ≡ rejected p w → length taken < p

-- An ordinary claim may rest on shape nowhere.
abbrev pub Accepts : {S : Type 0} → (S → Result (Option Line) SourceFault → S → Type 0) → ℕ → GameProblem → S → Colour → Type 0
Accepts gives n q s x = AcceptsBy nowhere gives n q s x

abbrev pub RejectsAt : {S : Type 0} → (S → Result (Option Line) SourceFault → S → Type 0) → ℕ → GameProblem → S → ℕ → Why → Type 0
RejectsAt gives n q s place why = RejectsAtBy nowhere gives n q s place why

abbrev pub FailsAt : {S : Type 0} → (S → Result (Option Line) SourceFault → S → Type 0) → (S → ℕ) → ℕ → GameProblem → S → ℕ → Type 0
FailsAt gives number n q s place = FailsAtBy nowhere gives number n q s place

abbrev pub IsReached : {S : Type 0} → (S → Result (Option Line) SourceFault → S → Type 0) → ℕ → GameProblem → S → ℕ → Type 0
IsReached gives n q s place = IsReachedBy nowhere gives n q s place

abbrev pub Asked : {S : Type 0} → (S → Result (Option Line) SourceFault → S → Type 0) → S → ℕ → S → Type 0
Asked gives s zero t = s ≡ t
Asked {S} gives s (suc k) t = (r : Result (Option Line) SourceFault) × (u : S) × gives s r u × Asked gives u k t

abbrev pub AsksTo : {S : Type 0} → (S → Result (Option Line) SourceFault → S → Type 0) → S → ℕ → S → Type 0
AsksTo gives s place t = (k : ℕ) × (k ≤ place) × Asked gives s k t

-- Over some bytes and a reader the answers are those of the verdict on all the lines of those bytes and the reader's.
pub record ReadersJudged : Type 0 where
  pub accepted : (q : GameProblem) (held : List ℕ) (told : Option (List ℕ)) (x : Colour) → Accepts reader_gives q.game.size q (streamed_of q.game.size held told) x
      → (bytes : List ℕ) × Tells told bytes × (verdict q (lines q.game.size (held ++ bytes)) ≡ accepted x)
  pub rejected : (q : GameProblem) (held : List ℕ) (told : Option (List ℕ)) (place : ℕ) (why : Why) → RejectsAt reader_gives q.game.size q (streamed_of q.game.size held told) place why
      → (bytes : List ℕ) × Tells told bytes × (verdict q (lines q.game.size (held ++ bytes)) ≡ rejected place why)
