-- What a run may leave: its whole text; or a failure, and then nothing is claimed.
--     MaySay command bytes status text      the whole text that the command may have for these bytes
--     Leaves Said status written      what is left if this may be said
--     Outcome command bytes status written      `command` is what the words ask for, if they ask for something
--     Explains command read write status written      a run that ended as failed did so because of memory, a read or a write
--     RanOn      the same between the devices before a run and after it, with why the run failed, if it did
--     EndsOn command status told left old new      what a session that was answered has asked for, and written
use Rattle.std.specs.Prelude.{◌≡◌, ℕ, List, ◌++◌, Option, Some, None, ◌⊎◌}
use Rattle.std.specs.Io.KnownBytes.{Appends}
use Rattle.gtp_core.specs.Lines.{raw_lines}
use Rattle.gtp_core.specs.Runs.{IsRun, IsReadTo, HasRun, first_session}
use Rattle.tsumego_words.specs.declared.command_line.Command.{Command}
use Rattle.tsumego_words.specs.declared.command_line.Command.TheVariants.{Gtp}
use Rattle.run_parts.specs.declared.status.Status.{Status}
use Rattle.run_parts.specs.declared.status.Status.TheVariants.{Answered, BadWords, Failed}
use Rattle.tsumego_replies.specs.Texts.{no_memory_text, no_read_text}
use Rattle.tsumego_replies.specs.Answers.{Says, SaysFailure}
use Rattle.proof_cert.specs.Streamed.{Tells}

-- What a run may have said in full: a status and a text.
abbrev pub Saying : Type 1
Saying = Status → List ℕ → Type 0

-- the replies of a session to all lines; or, if a read failed, those to the lines that had ended in the bytes before it, and that
-- it failed
abbrev pub SessionSays : List ℕ → Saying
SessionSays bytes status text =
    ((status ≡ Answered) × IsRun first_session (raw_lines bytes) text)
    ⊎ ((status ≡ Failed) × ((taken rest replies : List ℕ) × (bytes ≡ taken ++ rest) × IsReadTo taken replies × (text ≡ replies ++ no_read_text)))

-- The whole text that the command may have for these bytes, and its status.
abbrev pub MaySay : Command → List ℕ → Saying
MaySay Gtp bytes = SessionSays bytes
MaySay command bytes = Says command bytes

-- A write failed: what was taken is a front of something that the run may say.
abbrev pub IsCut : Saying → List ℕ → Type 0
IsCut Said written = (rest : List ℕ) × (((status : Status) × Said status (written ++ rest)) ⊎ SaysFailure (written ++ rest))

-- The whole text was written; or there was a failure, and then a part of it may have been written.
abbrev pub Leaves : Saying → Status → List ℕ → Type 0
Leaves Said status written = Said status written ⊎ ((status ≡ Failed) × (SaysFailure written ⊎ IsCut Said written))

-- If the words ask for nothing, nothing is said about the text.
abbrev pub Outcome : Option Command → List ℕ → Status → List ℕ → Type 0
Outcome None bytes status written = (status ≡ BadWords) ⊎ (status ≡ Failed)
Outcome (Some command) bytes status written = Leaves (MaySay command bytes) status written

-- The text says that a read failed, and nothing else; the text of a session says so after replies.
abbrev pub SaysNoRead : Option Command → List ℕ → Type 0
SaysNoRead (Some Gtp) written = (replies : List ℕ) × (written ≡ replies ++ no_read_text)
SaysNoRead _ written = written ≡ no_read_text

-- Why a run ended as failed: memory was refused, and the text says only that; or a read failed, and the text says so; or a write
-- failed.
abbrev pub Explains : Option Command → Type 0 → Type 0 → Status → List ℕ → Type 0
Explains command read write status written = status ≡ Failed → (written ≡ no_memory_text) ⊎ ((read × SaysNoRead command written) ⊎ write)

-- The writer has taken what such a run leaves, and a failure has its cause.
abbrev pub HasLeftOn : Saying → Type 0 → Status → Option (List ℕ) → Option (List ℕ) → Type 0
HasLeftOn Said write status old new = (written : List ℕ) × Appends old new written × Leaves Said status written × Explains None ⊥ write status written

-- `read` says of the bytes that a read of them failed, or a bound was passed; `write` that a write failed.
abbrev pub RanOn : Option Command → Option (List ℕ) → (List ℕ → Type 0) → Type 0 → Status → Option (List ℕ) → Option (List ℕ) → Type 0
RanOn command told read write status old new =
    (bytes written : List ℕ) × Tells told bytes × Appends old new written × Outcome command bytes status written × Explains command (read bytes) write status written

-- A session that was answered has taken all that its reader has; or the line that ended it, and less than a block after that.
abbrev pub EndsOn : Option Command → Status → Option (List ℕ) → Option (List ℕ) → Option (List ℕ) → Option (List ℕ) → Type 0
EndsOn (Some Gtp) status told left old new = status ≡ Answered → HasRun told left old new
EndsOn _ status told left old new = Unit {0}
