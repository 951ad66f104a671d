-- What is found as JSON, an object on each line.
--     turn_objects names before found      an object for each turn that was judged after these
--     short_json, long_json      all of it, without and with the line of play
use Rattle.std.specs.Prelude.{ℕ, Bool, true, false, List, [], ◌∷◌, ◌++◌, codes, decimal, Option, Some, None}
use Rattle.go_points.specs.declared.Turn.{Turn}
use Rattle.first_moves.specs.declared.found.Found.{Found}
use Rattle.first_moves.specs.declared.found.Solution.{Solution}
use Rattle.first_moves.specs.declared.line.Later.{Later}
use Rattle.first_moves.specs.declared.line_solution.LineSolution.{LineSolution}
use Rattle.first_moves.specs.declared.line_solution.LineSolution.TheVariants as lines
use Rattle.first_moves.specs.declared.names.Names.{Names}
use Rattle.first_moves.specs.Judged.{count, is_right, is_unknown, solution_of}
use Rattle.first_moves.specs.Text.{turn_text, worth_text, solution_name}

-- the name of a turn in quotes
abbrev pub quoted : Names → Turn → List ℕ
quoted names t = codes "\"" ++ (turn_text names t ++ codes "\"")

-- each of these after a comma
abbrev pub more_turns : Names → List Turn → List ℕ
more_turns names [] = []
more_turns names (t ∷ ts) = (codes "," ++ quoted names t) ++ more_turns names ts

abbrev pub quoted_turns : Names → List Turn → List ℕ
quoted_turns names [] = []
quoted_turns names (t ∷ ts) = quoted names t ++ more_turns names ts

-- the turns that come before, if there are any
abbrev pub after_field : Names → List Turn → List ℕ
after_field names [] = []
after_field names (t ∷ ts) = codes "\"after\":[" ++ (quoted_turns names (t ∷ ts) ++ codes "],")

-- the reply that refutes a turn, if there is one
abbrev pub refutation_field : Names → Option Turn → List ℕ
refutation_field names None = []
refutation_field names (Some t) = codes ",\"refutation\":\"" ++ (turn_text names t ++ codes "\"")

-- the object of a turn: what comes before, its name, what becomes of the mover, and the reply that refutes it
abbrev pub object_of : List ℕ → List ℕ → List ℕ → List ℕ → List ℕ
object_of after turn worth refutation =
    codes "{" ++ (after ++ (codes "\"turn\":\"" ++ (turn
    ++ (codes "\",\"mover\":\"" ++ (worth ++ (codes "\"" ++ (refutation ++ codes "}\n")))))))

abbrev pub object_from : List ℕ → Names → Found → List ℕ
object_from after names f = object_of after (turn_text names f.turn) (worth_text f.judged) (refutation_field names f.reply)

abbrev pub turn_object : Names → List Turn → Found → List ℕ
turn_object names before f = object_from (after_field names before) names f

abbrev pub turn_objects : Names → List Turn → List Found → List ℕ
turn_objects names before [] = []
turn_objects names before (f ∷ fs) = turn_object names before f ++ turn_objects names before fs

abbrev pub later_objects : Names → List Later → List ℕ
later_objects names [] = []
later_objects names (l ∷ ls) = turn_objects names l.position.turns.items l.found.items ++ later_objects names ls

-- how many turns win, and about how many nothing is known
abbrev pub tally_object : Solution → ℕ → ℕ → List ℕ
tally_object solution winning unknown =
    codes "{\"solution\":\"" ++ (solution_name solution
    ++ (codes "\",\"winning\":" ++ (decimal winning ++ (codes ",\"unknown\":" ++ (decimal unknown ++ codes "}\n")))))

abbrev pub solution_object : List Found → List ℕ
solution_object found = let winning = count is_right found in let unknown = count is_unknown found in
    tally_object (solution_of winning unknown) winning unknown

abbrev pub bool_text : Bool → List ℕ
bool_text true = codes "true"
bool_text false = codes "false"

abbrev pub unique_fields : ℕ → List ℕ → List ℕ
unique_fields n last = codes "\"unique\",\"turn\":" ++ (decimal n ++ (codes ",\"last\":" ++ last))

-- what is said of the line of play
abbrev pub line_fields : LineSolution → Bool → List ℕ
line_fields (lines.Unique n) is_whole = unique_fields n (bool_text is_whole)
line_fields (lines.Several n) is_whole = codes "\"several\",\"turn\":" ++ decimal n
line_fields (lines.Open n k) is_whole = codes "\"open\",\"turn\":" ++ (decimal n ++ (codes ",\"unknown\":" ++ decimal k))
line_fields lines.Lost is_whole = codes "\"none\""

abbrev pub line_object : LineSolution → Bool → List ℕ
line_object solution is_whole = codes "{\"line\":" ++ (line_fields solution is_whole ++ codes "}\n")

abbrev pub short_json : Names → List Found → List ℕ
short_json names found = turn_objects names [] found ++ solution_object found

abbrev pub long_json : Names → List Found → List Later → LineSolution → Bool → List ℕ
long_json names found later solution is_whole =
    turn_objects names [] found ++ (later_objects names later
    ++ (solution_object found ++ line_object solution is_whole))
