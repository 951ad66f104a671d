-- Definitions for the private calls that take lines from a reader. No public clause rests on them.
use Rattle.std.specs.Prelude.{◌≡◌, ◌+◌, ℕ, Bool, not, List, [], ◌∷◌, ◌++◌, length, take, Option, None, Some, ◌⊎◌}
use Rattle.std.specs.Io.KnownBytes.{Appends, Consumes, IsAtEnd, prepend_known}
use Rattle.byte_writer.specs.Taken.{TakesPart}
use Rattle.gtp_core.specs.declared.input.Ending.{Ending}
use Rattle.gtp_core.specs.declared.input.Ending.TheVariants.{LineFeed, End}
use Rattle.gtp_core.specs.Lines.{raw_lines}
use Rattle.gtp_core.specs.Private.Pieces.{HasNone}
use Rattle.gtp_core.specs.Runs.{GoesThrough, first_session, input_limit}
use Rattle.gtp_core.specs.Serving.{Output, Serves}
use Rattle.gtp_core.specs.Session.{GtpSession}

-- The bytes that are held, and how many more the input may have.
pub record HeldInput : Type 0 where
  pub held : List ℕ
  pub room : ℕ

-- What an input has left, if its reader tells it, and how many bytes of it may be taken.
pub record Bounded : Type 0 where
  pub left : Option (List ℕ)
  pub room : ℕ

abbrev pub bounded : HeldInput → Option (List ℕ) → Bounded
bounded input remaining = record { left = prepend_known input.held remaining; room = input.room }

-- These bytes were taken.
abbrev pub Gives : Bounded → Bounded → List ℕ → Type 0
Gives old new bytes = Consumes old.left new.left bytes × (length bytes + new.room ≡ old.room)

-- After these bytes a read failed, about which this is known, with nothing held; or they are all that may be taken, and the input
-- has one more, which was taken too.
abbrev pub Stops : Type 0 → List ℕ → Bounded → Bounded → List ℕ → Type 0
Stops failed held old new bytes =
    (failed × (held ≡ []) × Gives old new bytes)
    ⊎ ((b : ℕ) × Consumes old.left new.left (bytes ++ b ∷ []) × (length bytes ≡ old.room))

-- The same, for the bytes of a line that had not ended.
abbrev pub StopsInLine : Type 0 → List ℕ → Bounded → Bounded → Type 0
StopsInLine failed held old new = (line : List ℕ) × HasNone 10 line × Stops failed held old new line

-- A reader gave one byte, or has ended.
abbrev pub HasByte : Option (List ℕ) → Option (List ℕ) → Option ℕ → Type 0
HasByte old new None = Consumes old new [] × IsAtEnd new
HasByte old new (Some b) = Consumes old new (b ∷ [])

-- The same for an input, if it may have that byte.
abbrev pub IsByte : Bounded → Bounded → Option ℕ → Type 0
IsByte old new None = Gives old new [] × IsAtEnd new.left
IsByte old new (Some b) = Gives old new (b ∷ [])

-- The raw line that was taken, of which at most this front was kept; and how it ended.
abbrev pub kept : List ℕ → List ℕ
kept line = take 4097 line

abbrev pub IsRawLine : Bounded → Bounded → List ℕ → Ending → Type 0
IsRawLine old new front LineFeed = (line : List ℕ) × HasNone 10 line × (front ≡ kept line) × Gives old new (line ++ 10 ∷ [])
IsRawLine old new front End = (line : List ℕ) × HasNone 10 line × (front ≡ kept line) × Gives old new line × IsAtEnd new.left

-- A raw line was served, and its reply was written whole or a front of it was.
abbrev pub IsServed : GtpSession → List ℕ → Bool → Option (List ℕ) → Option (List ℕ) → GtpSession → Type 0
IsServed s line goes_on old new t = (bytes : List ℕ) × Serves s line (record { bytes = bytes; ends = not goes_on }) t × Appends old new bytes

abbrev pub IsPartServed : GtpSession → List ℕ → Option (List ℕ) → Option (List ℕ) → Type 0
IsPartServed s line old new = (out : Output) × (t : GtpSession) × Serves s line out t × TakesPart old new out.bytes

-- A run under way: these bytes were used, these lines were served, and this was written.
pub record IsUnderWay (told : Option (List ℕ)) (left : Bounded) (old new : Option (List ℕ)) (s : GtpSession) : Type 0 where
  pub used : List ℕ
  pub front : List (List ℕ)
  pub parted : (more : List ℕ) → raw_lines (used ++ more) ≡ front ++ raw_lines more
  pub consumed : Consumes told left.left used
  pub spent : length used + left.room ≡ input_limit
  pub written : List ℕ
  pub appended : Appends old new written
  pub through : GoesThrough first_session front written s
