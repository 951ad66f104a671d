-- What is written for a request.
use Rattle.first_moves.proofs.Common.{◌≡◌, ℕ, List, Some, Result, Ok, Err, sym, ◌∙◌, ap, subst, IfOk, string_bytes, legal_turns, GameProblem, start, Found, Later, AreJudged, AreLater, IsOutput}
use Rattle.std.proofs.Common.{Bool, true, false, nat_lt}
use Rattle.sgf_text.specs.Grammar.{Reads}
use Rattle.sgf_text.specs.Trees.{GameTree}
use Rattle.tsumego_problem.specs.Walk.{problem_within, history_limit}
use Rattle.tool_parts.specs.Written.{end_of}
use Rattle.tool_parts.specs.declared.output.Output.{Output}
use Rattle.tool_parts.specs.declared.output.Output.TheVariants.{Record, Text}
use Rattle.run_parts.specs.declared.status.Status.TheVariants.{Refused}
use Rattle.first_moves.specs.declared.names.Names.{Names}
use Rattle.first_moves.specs.declared.words.Form.{Form}
use Rattle.first_moves.specs.declared.words.Form.TheVariants as forms
use Rattle.first_moves.specs.declared.words.Request.{Request}
use Rattle.first_moves.specs.Outputs.{AnswersText, IsInForm, IsOfLine, IsShortText, IsTold, IsToldBy, IsToldOf, names_of}

-- a refusal is no answer
no_answer : (Is : List ℕ → Type 0) (o : Output) → end_of o ≡ Refused → AnswersText Is o
no_answer Is (Record tree) e = absurd (cc e)
no_answer Is (Text text status) e = λ f. absurd (cc (e, f))

pub refused : {E : Type 0} (form : Form) (Is : List ℕ → Type 0) (r : Result Output E) → IfOk r (λ o. end_of o ≡ Refused) → IfOk r (IsInForm form Is)
refused form Is (Err fault) e = tt
refused forms.List Is (Ok o) e = no_answer Is o e
refused forms.Record Is (Ok o) e = tt
refused forms.Json Is (Ok o) e = no_answer Is o e
refused forms.Graded Is (Ok o) e = no_answer Is o e

-- what is said of a text in one way may be said in another
with_text : (P Q : List ℕ → Type 0) → ((text : List ℕ) → P text → Q text) → (o : Output) → AnswersText P o → AnswersText Q o
with_text P Q f (Record tree) h = absurd h
with_text P Q f (Text text status) h = λ e. f (string_bytes text) (h e)

pub in_form : {E : Type 0} (form : Form) (P Q : List ℕ → Type 0) → ((text : List ℕ) → P text → Q text) → (r : Result Output E) → IfOk r (IsInForm form P) → IfOk r (IsInForm form Q)
in_form form P Q f (Err fault) h = tt
in_form forms.List P Q f (Ok o) h = with_text P Q f o h
in_form forms.Record P Q f (Ok o) h = tt
in_form forms.Json P Q f (Ok o) h = with_text P Q f o h
in_form forms.Graded P Q f (Ok o) h = with_text P Q f o h

-- the text of the first turns, and with those of the line
pub short : (request : Request) (q : GameProblem) (names : Names) (found : List Found) → names ≡ names_of request.coordinates q.game.size → AreJudged q (legal_turns (start q)) found
    → nat_lt request.depth 2 ≡ true → (text : List ℕ) → IsShortText request.form names q.mover found text → IsTold request q text
short request q names found named judged e text is =
    subst (λ (b : Bool). IsToldBy b request.form request.depth q (names_of request.coordinates q.game.size) text) (sym e)
    (found, judged, subst (λ (ns : Names). IsShortText request.form ns q.mover found text) named is)

pub long : (request : Request) (q : GameProblem) (names : Names) (found : List Found) (later : List Later) (is_whole : Bool) → names ≡ names_of request.coordinates q.game.size
    → AreJudged q (legal_turns (start q)) found → AreLater request.depth q later → nat_lt request.depth 2 ≡ false
    → (text : List ℕ) → IsOfLine request.form names q.mover found later is_whole text → IsTold request q text
long request q names found later is_whole named judged all e text is =
    subst (λ (b : Bool). IsToldBy b request.form request.depth q (names_of request.coordinates q.game.size) text) (sym e)
    (found, judged, later, all, is_whole, subst (λ (ns : Names). IsOfLine request.form ns q.mover found later is_whole text) named is)

-- the text of a problem is that of the bytes
pub of_bytes : {E : Type 0} (request : Request) (bytes : List ℕ) (tree : GameTree) (n : ℕ) (q : GameProblem) (r : Result Output E)
    → Reads bytes tree n → problem_within (Some history_limit) tree ≡ Ok q → IfOk r (IsInForm request.form (IsTold request q)) → IfOk r (IsOutput request bytes)
of_bytes request bytes tree n q r reads is = in_form request.form (IsTold request q) (IsToldOf request bytes) (λ text told. (tree, n, q, reads, is, told)) r
