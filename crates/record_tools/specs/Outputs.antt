-- What a run writes, for what is asked for and the bytes of its input.
--     IsWritten Is node is_bare bytes tree      the record that is marked, or its position alone
--     IsOutput request bytes output      what is written
use Rattle.std.specs.Prelude.{◌≡◌, ◌≢◌, ◌-◌, ℕ, List, Bool, true, false, string_bytes, Option, Some, Ok}
use Rattle.go_points.specs.declared.Colour.{Colour}
use Rattle.sgf_text.specs.Grammar.{Reads}
use Rattle.sgf_text.specs.Trees.{GameTree}
use Rattle.target_game.specs.State.{GameProblem}
use Rattle.tsumego_problem.specs.Walk.{problem_within, history_limit}
use Rattle.record_pages.specs.Bare.{IsBare}
use Rattle.tool_parts.specs.declared.output.Output.{Output}
use Rattle.tool_parts.specs.declared.output.Output.TheVariants.{Record, Text}
use Rattle.run_parts.specs.declared.status.Status.TheVariants.{Answered}
use Rattle.record_marks.specs.declared.marking.Marks.{Marks}
use Rattle.record_marks.specs.declared.marking.Region.{Region}
use Rattle.record_marks.specs.declared.marking.Region.TheVariants as regions
use Rattle.record_tools.specs.declared.words.Zone.{Zone}
use Rattle.record_tools.specs.declared.words.Zone.TheVariants as zones
use Rattle.record_tools.specs.declared.words.Request.{Request}
use Rattle.record_tools.specs.declared.words.Request.TheVariants as requests
use Rattle.record_marks.specs.Asked.{IsChosen, IsMarkedFor}
use Rattle.record_tools.specs.Games.{IsGame}
use Rattle.record_marks.specs.Supposed.{IsMarkedBy}

-- the region of the marks, as the words ask for it
abbrev pub IsZone : Zone → Region → Type 0
IsZone zones.Proposed region = region ≡ regions.Proposed
IsZone zones.Board region = region ≡ regions.Board
IsZone (zones.Points text) (regions.Points named) = named.now ≡ string_bytes text
IsZone (zones.Points text) regions.Proposed = ⊥
IsZone (zones.Points text) regions.Board = ⊥
IsZone (zones.Count count walls shut) region = region ≡ regions.Board

-- with a number of empty points stones may have been placed
abbrev pub IsMarkedIn : Zone → Marks → ℕ → GameTree → GameTree → Type 0
IsMarkedIn zones.Proposed wanted = IsMarkedFor wanted
IsMarkedIn zones.Board wanted = IsMarkedFor wanted
IsMarkedIn (zones.Points text) wanted = IsMarkedFor wanted
IsMarkedIn (zones.Count count walls shut) wanted = IsMarkedBy wanted

-- the present position of the problem alone, without what came before
abbrev pub IsAlone : GameProblem → GameTree → Type 0
IsAlone q tree = (shown : GameProblem) × IsBare q shown × (problem_within (Some history_limit) tree ≡ Ok shown)

-- the record with the marks, or the position of its problem alone
abbrev pub IsShown : Bool → GameTree → GameTree → Type 0
IsShown false made tree = tree ≡ made
IsShown true made tree = (q : GameProblem) × (problem_within (Some history_limit) made ≡ Ok q) × IsAlone q tree

-- the first tree of these bytes, marked in this way at the node that is chosen
abbrev pub IsWritten : (ℕ → GameTree → GameTree → Type 0) → Option ℕ → Bool → List ℕ → GameTree → Type 0
IsWritten Is node is_bare bytes tree =
    (first made : GameTree) × (n k : ℕ) × Reads bytes first n × IsChosen node k × Is k first made × IsShown is_bare made tree

-- what is asked for, in the words of the request
abbrev pub IsWanted : Option ℕ → List ℕ → Zone → Option Colour → Marks → Type 0
IsWanted node targets zone mover wanted =
    (wanted.node ≡ node) × (wanted.targets.now ≡ targets) × IsZone zone wanted.region × (wanted.mover ≡ mover)

-- If the output is an answer, it is such a record.
abbrev pub AnswersRecord : (GameTree → Type 0) → Output → Type 0
AnswersRecord Is (Record tree) = Is tree
AnswersRecord Is (Text text status) = status ≢ Answered

-- What is written for a request. Of pages, pictures and the files of all trees nothing is said.
abbrev pub IsOutput : Request → List ℕ → Output → Type 0
IsOutput (requests.Split number) bytes output = AnswersRecord (IsGame (number - 1) bytes) output
IsOutput (requests.Mark node targets zone mover is_bare) bytes output =
    (wanted : Marks) × IsWanted node (string_bytes targets) zone mover wanted
    × AnswersRecord (IsWritten (IsMarkedIn zone wanted) wanted.node is_bare bytes) output
IsOutput (requests.SplitInto folder) bytes output = Unit
IsOutput (requests.Page cut form) bytes output = Unit
IsOutput (requests.Picture view look caption ascii) bytes output = Unit
