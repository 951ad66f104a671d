-- The parts of a claim as the program judges them.
--     head_of      what a lemma says before its tree
--     BodyParts, ordinary      what the program holds of a body, and the body that it is if shape is judged elsewhere
--     PassesOn b j      if the body b may use the lemma with number j, it may make the colourings on that lemma's list
--     line_values      what lines of the program say
--     header_line_of, opening_line, had_line_of, listed_line, node_line, reply_line_of, end_line_of      the line, if it is of one
--         kind
--     header_value, .., end_value      what the program's parts say, as lines
use Rattle.std.specs.Prelude.{ℕ, Bool, true, false, List, map, Option, Some, None, IfSome, IsTrue, option_map}
use Rattle.std.specs.List.{list_all}
use Rattle.go_points.specs.declared.Colour.{Colour}
use Rattle.go_points.specs.declared.Cell.{Cell}
use Rattle.go_points.specs.declared.Turn.{Turn}
use Rattle.go_points.specs.Ply.{ply_of}
use Rattle.proof_cert.specs.Claim.{Head}
use Rattle.proof_cert.specs.Lines.{Line, header_line, lemma_line, had_line, not_line, main_line, won_line, use_line, play_line, all_line, reply_line, end_line}
use Rattle.proof_cert.specs.Stage.{line_value, version_number}
use Rattle.proof_cert.specs.declared.line.Line as code
use Rattle.cert_check.specs.declared.reject.Why as code_why
use Rattle.cert_check.specs.declared.reject.Why.TheVariants.{Read}
use Rattle.cert_check.specs.declared.lines.Header.{Header}
use Rattle.cert_check.specs.declared.lines.NodeLine.{NodeLine}
use Rattle.cert_check.specs.declared.lines.NodeLine.TheVariants.{Won, Use, Play, All}
use Rattle.cert_check.specs.declared.lines.Opening.{Opening}
use Rattle.cert_check.specs.declared.lines.Opening.TheVariants.{Lemma, Main}
use Rattle.cert_check.specs.Body.{Body, nowhere, Why, is_listed, lemma_at}

-- what is judged is never refused because of a failed read
abbrev pub IsJudged : code_why.Why → Type 0
IsJudged Read = ⊥
IsJudged _ = Unit {0}

-- what a lemma says before its tree
abbrev pub head_of : Colour → ℕ → List Cell → List (List Cell) → List (List Cell) → Head
head_of mover passes root had absent = record { mover = mover; passes = passes; root = root; had = had; absent = absent }

pub record BodyParts : Type 0 where
  pub winner : Colour
  pub earlier : List Head
  pub listed : Option (List (List Cell))

abbrev pub ordinary : BodyParts → Body
ordinary a = record { winner = a.winner; earlier = a.earlier; listed = a.listed; shape = nowhere }

-- the body may make each colouring on the list of the lemma that it knows by this number
abbrev pub PassesOn : Body → ℕ → Type 0
PassesOn b j = IfSome (lemma_at b.earlier j) (λ h. IsTrue (list_all (is_listed b.listed) h.absent))

-- what lines of the program say, with None for a malformed one
abbrev pub line_values : ℕ → List (Option code.Line) → List (Option Line)
line_values n ls = map (option_map (line_value n)) ls

-- the first line
abbrev pub header_value : Header → Line
header_value h = header_line (version_number h.version) h.size h.winner

abbrev pub header_line_of : Line → Option Line
header_line_of (header_line version size winner) = Some (header_line version size winner)
header_line_of _ = None

-- the lines before a body
abbrev pub opening_value : Opening → Line
opening_value (Lemma mover passes root) = lemma_line mover passes root
opening_value Main = main_line

abbrev pub opening_line : Line → Option Line
opening_line (lemma_line mover passes root) = Some (lemma_line mover passes root)
opening_line main_line = Some main_line
opening_line _ = None

-- the lines of a lemma's lists
abbrev pub had_value : List Cell → Line
had_value c = had_line c

abbrev pub had_line_of : Line → Option Line
had_line_of (had_line c) = Some (had_line c)
had_line_of _ = None

abbrev pub listed_value : List Cell → Line
listed_value c = not_line c

abbrev pub listed_line : Line → Option Line
listed_line (not_line c) = Some (not_line c)
listed_line _ = None

-- the lines of nodes
abbrev pub node_value : ℕ → NodeLine → Line
node_value n Won = won_line
node_value n (Use j) = use_line j
node_value n (Play t) = play_line (ply_of n t)
node_value n (All m) = all_line m

abbrev pub node_line : Line → Option Line
node_line won_line = Some won_line
node_line (use_line j) = Some (use_line j)
node_line (play_line t) = Some (play_line t)
node_line (all_line m) = Some (all_line m)
node_line _ = None

-- the lines of replies
abbrev pub reply_value : ℕ → Turn → Line
reply_value n t = reply_line (ply_of n t)

abbrev pub reply_line_of : Line → Option Line
reply_line_of (reply_line t) = Some (reply_line t)
reply_line_of _ = None

-- the line `end`
abbrev pub end_value : Bool → Option Line
end_value true = Some end_line
end_value false = None

abbrev pub end_line_of : Line → Option Line
end_line_of end_line = Some end_line
end_line_of _ = None
