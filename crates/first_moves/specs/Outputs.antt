-- What a run writes, for what is asked for and the bytes of its input.
--     IsTold request q text      the list, or the JSON, of a problem
--     IsOutput request bytes output      what is written
use Rattle.std.specs.Prelude.{◌≡◌, ◌+◌, ℕ, Bool, true, false, IsTrue, List, length, nat_lt, string_bytes, if◌then◌else◌, Some, Ok}
use Rattle.std.specs.List.{list_all}
use Rattle.go_points.specs.declared.Colour.{Colour}
use Rattle.sgf_text.specs.Grammar.{Reads}
use Rattle.sgf_text.specs.Trees.{GameTree}
use Rattle.target_game.specs.Legal.{legal_turns}
use Rattle.target_game.specs.State.{GameProblem, start}
use Rattle.tsumego_problem.specs.Walk.{problem_within, history_limit}
use Rattle.tool_parts.specs.declared.output.Output.{Output}
use Rattle.tool_parts.specs.declared.output.Output.TheVariants.{Record, Text}
use Rattle.run_parts.specs.declared.status.Status.TheVariants.{Answered}
use Rattle.first_moves.specs.declared.found.Found.{Found}
use Rattle.first_moves.specs.declared.line.Later.{Later}
use Rattle.first_moves.specs.declared.line_solution.LineSolution.{LineSolution}
use Rattle.first_moves.specs.declared.names.Names.{Names}
use Rattle.first_moves.specs.declared.names.Names.TheVariants.{Letters, Coordinates}
use Rattle.first_moves.specs.declared.words.Form.{Form}
use Rattle.first_moves.specs.declared.words.Form.TheVariants as forms
use Rattle.first_moves.specs.declared.words.Request.{Request}
use Rattle.first_moves.specs.Judged.{AreJudged, count, is_right, is_unknown}
use Rattle.first_moves.specs.Line.{AreLater, IfUnique, has_one}
use Rattle.first_moves.specs.Graded.{IsGraded}
use Rattle.first_moves.specs.Json.{short_json, long_json}
use Rattle.first_moves.specs.Text.{short_list, long_list}

-- What is written in a form of the first turns of this mover that were judged. Of records nothing is said here.
abbrev pub IsShortText : Form → Names → Colour → List Found → List ℕ → Type 0
IsShortText forms.List names mover found text = text ≡ short_list names found
IsShortText forms.Json names mover found text = text ≡ short_json names found
IsShortText forms.Graded names mover found text = IsGraded names mover found (short_json names found) text
IsShortText forms.Record names mover found text = Unit

-- the first turns and how many win, and nothing else
abbrev pub IsShort : Form → GameProblem → Names → List ℕ → Type 0
IsShort form q names text =
    (found : List Found) × AreJudged q (legal_turns (start q)) found × IsShortText form names q.mover found text

-- What is said of a line of play: it is unique only if at each turn that was judged one wins, and each other is known to lose; and
-- it is unique to the last of these.
abbrev pub IsLineSolution : List Found → List Later → LineSolution → Type 0
IsLineSolution found later solution =
    IfUnique solution (λ n. (n ≡ length later + 1) × (count is_right found ≡ 1) × (count is_unknown found ≡ 0) × IsTrue (list_all has_one later))

-- the same, with later turns, and what is said of the line that has them
abbrev pub IsLongText : Form → Names → Colour → List Found → List Later → LineSolution → Bool → List ℕ → Type 0
IsLongText forms.List names mover found later solution is_whole text = text ≡ long_list names found later solution is_whole
IsLongText forms.Json names mover found later solution is_whole text = text ≡ long_json names found later solution is_whole
IsLongText forms.Graded names mover found later solution is_whole text =
    IsGraded names mover found (long_json names found later solution is_whole) text
IsLongText forms.Record names mover found later solution is_whole text = Unit

-- what is said of a line is so
abbrev pub IsOfLine : Form → Names → Colour → List Found → List Later → Bool → List ℕ → Type 0
IsOfLine form names mover found later is_whole text =
    (solution : LineSolution) × IsLineSolution found later solution × IsLongText form names mover found later solution is_whole text

-- The later turns are those of one line of play, and no more than are asked for.
abbrev pub IsLong : Form → ℕ → GameProblem → Names → List ℕ → Type 0
IsLong form depth q names text =
    (found : List Found) × AreJudged q (legal_turns (start q)) found × (later : List Later) × AreLater depth q later
    × (is_whole : Bool) × IsOfLine form names q.mover found later is_whole text

-- how points are named in it
abbrev pub names_of : Bool → ℕ → Names
names_of coordinates n = if coordinates then Coordinates n else Letters

-- with one turn of the mover's on the line that is the short one
abbrev pub IsToldBy : Bool → Form → ℕ → GameProblem → Names → List ℕ → Type 0
IsToldBy true form depth q names text = IsShort form q names text
IsToldBy false form depth q names text = IsLong form depth q names text

abbrev pub IsTold : Request → GameProblem → List ℕ → Type 0
IsTold request q text =
    IsToldBy (nat_lt request.depth 2) request.form request.depth q (names_of request.coordinates q.game.size) text

-- If the output is an answer, it is such a text.
abbrev pub AnswersText : (List ℕ → Type 0) → Output → Type 0
AnswersText Is (Record tree) = ⊥
AnswersText Is (Text text status) = status ≡ Answered → Is (string_bytes text)

-- What is written in this form. Of records nothing is said.
abbrev pub IsInForm : Form → (List ℕ → Type 0) → Output → Type 0
IsInForm forms.List Is output = AnswersText Is output
IsInForm forms.Record Is output = Unit
IsInForm forms.Json Is output = AnswersText Is output
IsInForm forms.Graded Is output = AnswersText Is output

-- of the problem of the first tree of these bytes
abbrev pub IsToldOf : Request → List ℕ → List ℕ → Type 0
IsToldOf request bytes text =
    (tree : GameTree) × (n : ℕ) × (q : GameProblem) × Reads bytes tree n × (problem_within (Some history_limit) tree ≡ Ok q)
    × IsTold request q text

abbrev pub IsOutput : Request → List ℕ → Output → Type 0
IsOutput request bytes output = IsInForm request.form (IsToldOf request bytes) output
