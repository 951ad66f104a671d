-- What is written in a run that was answered.
use Rattle.std.proofs.Common.{◌≡◌, ◌≢◌, ℕ, List, [], ◌++◌, Option, Result, Ok, Err, IsTrue, refl, sym, ◌∙◌, subst}
use Rattle.std.specs.Prelude.{IfOk, is_err}
use Rattle.std.specs.Io.KnownBytes.{Appends}
use Rattle.tool_parts.specs.Answered.{HasAnswered, IsAnswered}
use Rattle.tool_parts.specs.Input.{Tells}
use Rattle.tool_parts.specs.Written.{bytes_of, end_of}
use Rattle.tool_parts.specs.declared.output.Output.{Output}
use Rattle.run_parts.specs.declared.status.Status.{Status}
use Rattle.run_parts.specs.declared.status.Status.TheVariants.{Answered, Failed}
use Rattle.tool_parts.specs.declared.words.NoRequest.{NoRequest}

-- an output that is no answer, and one that may be
pub not_answered : {E : Type 0} (P : Output → Type 0) (status : Status) (r : Result Output E) → status ≢ Answered → IfOk r (λ o. end_of o ≡ status) → IfOk r (λ o. end_of o ≡ Answered → P o)
not_answered P status (Ok o) ne is = λ e. absurd (ne (sym is ∙ e))
not_answered P status (Err fault) ne is = tt

pub output_answered : {Q E : Type 0} (IsOutput : Q → List ℕ → Output → Type 0) (asked : Result Q NoRequest) (request : Q) (told : Option (List ℕ)) (bytes : List ℕ) (r : Result Output E)
    → asked ≡ Ok request → Tells told bytes → IfOk r (IsOutput request bytes) → IfOk r (λ o. end_of o ≡ Answered → IsAnswered IsOutput asked told o)
output_answered IsOutput asked request told bytes (Ok o) e tells is = λ end. subst (λ a. IsAnswered IsOutput a told o) (sym e) (bytes, tells, is)
output_answered IsOutput asked request told bytes (Err fault) e tells is = tt

-- what a reader has, where nothing was read before
pub all_read : (told : Option (List ℕ)) (items bytes : List ℕ) → items ≡ [] ++ bytes → Tells told bytes → Tells told items
all_read told items bytes e h = subst (Tells told) (sym e) h

-- a run that was answered has written all
pub answered : {Q E : Type 0} (IsOutput : Q → List ℕ → Output → Type 0) (request : Result Q NoRequest) (r : Result Output E) (status : Status) (told old new : Option (List ℕ))
    → IfOk r (λ o. end_of o ≡ Answered → IsAnswered IsOutput request told o)
    → IfOk r (λ o. status ≢ Failed → Appends old new (bytes_of o)) → IfOk r (λ o. status ≢ Failed → status ≡ end_of o)
    → (IsTrue (is_err r) → status ≡ Failed) → status ≡ Answered → HasAnswered IsOutput request told old new
answered IsOutput request (Ok o) status told old new is written ended memory e =
    let not_failed : status ≢ Failed = λ f. absurd (cc (e, f)) in
    let answer : end_of o ≡ Answered = sym (ended not_failed) ∙ e in
    (o, is answer, answer, written not_failed)
answered IsOutput request (Err fault) status told old new is written ended memory e = absurd (cc (e, memory refl))
