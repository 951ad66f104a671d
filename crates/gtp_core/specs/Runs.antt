-- A run of a session over the lines of an input.
--     GoesThrough s lines written t      all the lines are served in turn, and the session goes on as t
--     IsRun s lines written      the lines are served in turn, up to their end or to one that ends the session
--     EndsWithLine told left written      a run ended with a line, and asked for less than a block after it
--     AsksWithin told left      what a run asks for at most
--     HasRun, HasStopped      what a run over a reader leaves with the writer, and what it has asked for
--     HasStoppedOn      the same, with what is known of a read or a write that failed
-- `told` is what the reader tells before a run, and `left` what it tells after it.
use Rattle.std.specs.Prelude.{◌≡◌, ◌<◌, ◌≤◌, ◌+◌, ℕ, List, length, take, [], ◌∷◌, ◌++◌, Option, ◌⊎◌}
use Rattle.std.specs.Io.KnownBytes.{Appends, Consumes, IsAtEnd}
use Rattle.proof_cert.specs.Streamed.{Tells}
use Rattle.gtp_core.specs.declared.session.TheConstants.{FIRST_SIZE}
use Rattle.gtp_core.specs.declared.end.GtpEnd.{GtpEnd}
use Rattle.gtp_core.specs.declared.end.GtpEnd.TheVariants.{Read, Write, Memory}
use Rattle.gtp_core.specs.Lines.{raw_lines}
use Rattle.gtp_core.specs.Session.{GtpSession, new_session}
use Rattle.gtp_core.specs.Serving.{reply, last_reply, Serves}

abbrev pub GoesThrough : GtpSession → List (List ℕ) → List ℕ → GtpSession → Type 0
GoesThrough s [] written t = (written ≡ []) × (t ≡ s)
GoesThrough s (line ∷ lines) written t =
    (bytes rest : List ℕ) × (new : GtpSession) × Serves s line (reply bytes) new × (written ≡ bytes ++ rest) × GoesThrough new lines rest t

-- After a line that ends the session the others are ignored.
abbrev pub IsRun : GtpSession → List (List ℕ) → List ℕ → Type 0
IsRun s [] written = written ≡ []
IsRun s (line ∷ lines) written =
    ((bytes rest : List ℕ) × (new : GtpSession) × Serves s line (reply bytes) new × (written ≡ bytes ++ rest) × IsRun new lines rest)
    ⊎ ((new : GtpSession) × Serves s line (last_reply written) new)

abbrev pub first_session : GtpSession
first_session = new_session FIRST_SIZE

-- how many bytes an input may have, and how many are asked for at once
abbrev pub input_limit : ℕ
input_limit = 67108864

abbrev pub block_limit : ℕ
block_limit = 4096

-- The replies to all lines that had ended in the bytes that were taken, as far as an input may have these, and to no others.
pub record IsReadTo (taken written : List ℕ) : Type 0 where
  pub front : List (List ℕ)
  pub line : List ℕ
  pub parted : raw_lines (take input_limit taken) ≡ front ++ line ∷ []
  pub last : GtpSession
  pub through : GoesThrough first_session front written last

-- A front of the replies to some lines from the front.
pub record IsCut (bytes written : List ℕ) : Type 0 where
  pub front : List (List ℕ)
  pub behind : List (List ℕ)
  pub parted : raw_lines bytes ≡ front ++ behind
  pub rest : List ℕ
  pub run : IsRun first_session front (written ++ rest)

-- The last line that was served ended the session. The bytes up to the line feed after it were taken, and less than a block more.
pub record EndsWithLine (told left : Option (List ℕ)) (written : List ℕ) : Type 0 where
  pub front : List (List ℕ)
  pub line : List ℕ
  pub used : List ℕ
  pub parted : raw_lines used ≡ front ++ line ∷ [] ∷ []
  pub before : List ℕ
  pub last : GtpSession
  pub through : GoesThrough first_session front before last
  pub bytes : List ℕ
  pub new : GtpSession
  pub ends : Serves last line (last_reply bytes) new
  pub whole : written ≡ before ++ bytes
  pub ahead : List ℕ
  pub few : length ahead < block_limit
  pub taken : Consumes told left (used ++ ahead)

-- The bytes that were taken are no more than an input may have, and a block.
abbrev pub AsksWithin : Option (List ℕ) → Option (List ℕ) → Type 0
AsksWithin told left = (taken : List ℕ) × Consumes told left taken × (length taken ≤ input_limit + block_limit)

abbrev pub HasRun : Option (List ℕ) → Option (List ℕ) → Option (List ℕ) → Option (List ℕ) → Type 0
HasRun told left old new =
    (bytes written : List ℕ) × Tells told bytes × Appends old new written × IsRun first_session (raw_lines bytes) written
    × (IsAtEnd left ⊎ EndsWithLine told left written)

abbrev pub HasStopped : GtpEnd → Option (List ℕ) → Option (List ℕ) → Option (List ℕ) → Option (List ℕ) → Type 0
HasStopped Read told left old new = (taken written : List ℕ) × Consumes told left taken × Appends old new written × IsReadTo taken written
HasStopped Write told left old new = (bytes written : List ℕ) × Tells told bytes × Appends old new written × IsCut bytes written
HasStopped Memory told left old new = Appends old new []

-- `read` is known after a failed read, and `write` after a failed write; or the input is too long.
abbrev pub HasStoppedOn : Type 0 → Type 0 → GtpEnd → Option (List ℕ) → Option (List ℕ) → Option (List ℕ) → Option (List ℕ) → Type 0
HasStoppedOn read write Read told left old new =
    (taken written : List ℕ) × Consumes told left taken × Appends old new written × IsReadTo taken written × (read ⊎ (input_limit < length taken))
HasStoppedOn read write Write told left old new = (bytes written : List ℕ) × Tells told bytes × Appends old new written × IsCut bytes written × write
HasStoppedOn read write Memory told left old new = Appends old new []
