-- What a writer has taken of a text.
--     TakesPart      a front of it
--     HasPut      it was put after the bytes that are still to be written
--     Finishes      those were written too
use Rattle.std.specs.Prelude.{◌≡◌, ℕ, Bool, true, false, List, [], ◌++◌, Option, Result, Ok, Err}
use Rattle.std.specs.Io.KnownBytes.{Appends}

-- a front of the text was written, and nothing else
abbrev pub TakesPart : Option (List ℕ) → Option (List ℕ) → List ℕ → Type 0
TakesPart old new text = (part rest : List ℕ) × (text ≡ part ++ rest) × Appends old new part

-- a front of the bytes that were held and then the text was written, and the rest is held
abbrev pub Puts : Option (List ℕ) → Option (List ℕ) → List ℕ → List ℕ → List ℕ → Type 0
Puts old new held left text = (part : List ℕ) × (held ++ text ≡ part ++ left) × Appends old new part

-- bytes that are still to be written, and whether a write failed
pub record Pending : Type 0 where
  pub held : List ℕ
  pub failed : Bool

-- The text was put after what was pending: it is written or held, or a write failed and a front of both was written. After a
-- failure nothing is written.
pub record HasPut (old new : Option (List ℕ)) (before after : Pending) (text : List ℕ) : Type 0 where
  pub whole : after.failed ≡ false → (before.failed ≡ false) × Puts old new before.held after.held text
  pub cut : after.failed ≡ true → before.failed ≡ false → TakesPart old new (before.held ++ text)
  pub stays : before.failed ≡ true → (after.failed ≡ true) × Appends old new []

-- what was written of the text after a failure, and of what was held if there was none
abbrev pub CutOff : Bool → Option (List ℕ) → Option (List ℕ) → List ℕ → Type 0
CutOff true old new held = Appends old new []
CutOff false old new held = TakesPart old new held

-- All that was pending is written, and no write failed; or one did.
abbrev pub Finishes : {T E : Type 0} → Result T E → Option (List ℕ) → Option (List ℕ) → Pending → Type 0
Finishes (Ok x) old new pending = (pending.failed ≡ false) × Appends old new pending.held
Finishes (Err e) old new pending = CutOff pending.failed old new pending.held
