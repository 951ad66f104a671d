-- A run that was answered, for what such a program writes for a request and the bytes of its input.
--     IsAnswered IsOutput request told output      the output of such a run
--     HasAnswered IsOutput request told old new      what a writer has taken in it
use Rattle.std.specs.Prelude.{◌≡◌, ℕ, List, Option, Result, Ok, Err}
use Rattle.std.specs.Io.KnownBytes.{Appends}
use Rattle.tool_parts.specs.Input.{Tells}
use Rattle.tool_parts.specs.Written.{bytes_of, end_of}
use Rattle.tool_parts.specs.declared.output.Output.{Output}
use Rattle.run_parts.specs.declared.status.Status.TheVariants.{Answered}
use Rattle.tool_parts.specs.declared.words.NoRequest.{NoRequest}

-- the output is the one for the request, if there is one, and for all that the reader has
abbrev pub IsAnswered : {Q : Type 0} → (Q → List ℕ → Output → Type 0) → Result Q NoRequest → Option (List ℕ) → Output → Type 0
IsAnswered IsOutput (Ok request) told output = (bytes : List ℕ) × Tells told bytes × IsOutput request bytes output
IsAnswered IsOutput (Err none) told output = ⊥

-- The writer has taken the whole of it.
abbrev pub HasAnswered : {Q : Type 0} → (Q → List ℕ → Output → Type 0) → Result Q NoRequest → Option (List ℕ) → Option (List ℕ) → Option (List ℕ) → Type 0
HasAnswered IsOutput request told old new =
    (output : Output) × IsAnswered IsOutput request told output × (end_of output ≡ Answered) × Appends old new (bytes_of output)
