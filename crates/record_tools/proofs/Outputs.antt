-- What is written for a request.
use Rattle.std.proofs.Common.{◌≡◌, Bool, true, false, ℕ, List, Option, Some, Result, Ok, Err, refl, sym, subst}
use Rattle.std.specs.Prelude.{IfOk, string_bytes}
use Rattle.sgf_text.specs.Grammar.{Reads}
use Rattle.sgf_text.specs.Trees.{GameTree}
use Rattle.target_game.specs.State.{GameProblem}
use Rattle.tsumego_problem.specs.Walk.{problem_within, history_limit}
use Rattle.tool_parts.specs.Written.{end_of}
use Rattle.tool_parts.specs.declared.output.Output.{Output}
use Rattle.tool_parts.specs.declared.output.Output.TheVariants.{Record, Text}
use Rattle.run_parts.specs.declared.status.Status.TheVariants.{Refused}
use Rattle.record_marks.specs.declared.marking.Marks.{Marks}
use Rattle.record_tools.specs.declared.words.Request.{Request}
use Rattle.record_tools.specs.declared.words.Request.TheVariants as requests
use Rattle.record_marks.specs.Asked.{IsChosen}
use Rattle.record_tools.specs.Outputs.{AnswersRecord, IsAlone, IsMarkedIn, IsOutput, IsWanted, IsWritten}

-- a refusal is no answer
no_answer : (Is : GameTree → Type 0) (o : Output) → end_of o ≡ Refused → AnswersRecord Is o
no_answer Is (Record tree) e = absurd (cc e)
no_answer Is (Text text status) e = λ f. absurd (cc (e, f))

pub refused : {E : Type 0} (Is : GameTree → Type 0) (r : Result Output E) → IfOk r (λ o. end_of o ≡ Refused) → IfOk r (AnswersRecord Is)
refused Is (Ok o) e = no_answer Is o e
refused Is (Err fault) e = tt

-- the record with its marks, or its position alone
module _ (Is : ℕ → GameTree → GameTree → Type 0) (node : Option ℕ) (bytes : List ℕ) (first made : GameTree) (n k : ℕ)
    (reads : Reads bytes first n) (chosen : IsChosen node k) (marked : Is k first made) where
  pub whole : (is_bare : Bool) → is_bare ≡ false → IsWritten Is node is_bare bytes made
  whole true e = absurd (cc e)
  whole false e = (first, made, n, k, reads, chosen, marked, refl)

  alone : (q : GameProblem) → problem_within (Some history_limit) made ≡ Ok q → (is_bare : Bool) → is_bare ≡ true → (o : Output)
      → AnswersRecord (IsAlone q) o → AnswersRecord (IsWritten Is node is_bare bytes) o
  alone q is true e (Record tree) shown = (first, made, n, k, reads, chosen, marked, (q, is, shown))
  alone q is true e (Text text status) shown = shown
  alone q is false e o shown = absurd (cc e)

  pub bare : {E : Type 0} (q : GameProblem) → problem_within (Some history_limit) made ≡ Ok q → (is_bare : Bool) → is_bare ≡ true → (r : Result Output E)
      → IfOk r (AnswersRecord (IsAlone q)) → IfOk r (AnswersRecord (IsWritten Is node is_bare bytes))
  bare q is is_bare e (Ok o) shown = alone q is is_bare e o shown
  bare q is is_bare e (Err fault) shown = tt

-- what is said of an output with the marks that are asked for, and where nothing is said
pub asked_for : {E : Type 0} (node : _) (targets : _) (zone : _) (mover : _) (is_bare : Bool) (bytes : List ℕ) (wanted : Marks) (request : Request) (r : Result Output E)
    → request ≡ requests.Mark node targets zone mover is_bare → IsWanted node (string_bytes targets) zone mover wanted
    → IfOk r (AnswersRecord (IsWritten (IsMarkedIn zone wanted) wanted.node is_bare bytes)) → IfOk r (IsOutput request bytes)
asked_for place targets zone mover is_bare bytes wanted request (Ok o) e w is = subst (λ (q : Request). IsOutput q bytes o) (sym e) (wanted, w, is)
asked_for place targets zone mover is_bare bytes wanted request (Err fault) e w is = tt

pub unsaid : {E : Type 0} (request : Request) (bytes : List ℕ) (r : Result Output E) → ((o : Output) → IsOutput request bytes o) → IfOk r (IsOutput request bytes)
unsaid request bytes (Ok o) is = is o
unsaid request bytes (Err fault) is = tt
