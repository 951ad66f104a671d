-- What a list says of what is found.
--     turn_lines names before found      a line for each turn that was judged after these
--     short_list, long_list      the whole list, without and with the line of play
use Rattle.std.specs.Prelude.{ℕ, Bool, true, false, List, [], ◌∷◌, ◌++◌, codes, decimal, if◌then◌else◌}
use Rattle.go_points.specs.Gtp.{gtp_text}
use Rattle.go_points.specs.Place.{Place, on_board}
use Rattle.go_points.specs.Sgf.{sgf_text}
use Rattle.go_points.specs.declared.Turn.{Turn}
use Rattle.go_points.specs.declared.Turn.TheVariants.{Pass, At}
use Rattle.first_moves.specs.declared.found.Found.{Found}
use Rattle.first_moves.specs.declared.found.Solution.{Solution}
use Rattle.first_moves.specs.declared.found.Solution.TheVariants as solutions
use Rattle.first_moves.specs.declared.judged.Judged.{Judged}
use Rattle.first_moves.specs.declared.judged.Judged.TheVariants as judged
use Rattle.first_moves.specs.declared.line.Later.{Later}
use Rattle.first_moves.specs.declared.line_solution.LineSolution.{LineSolution}
use Rattle.first_moves.specs.declared.line_solution.LineSolution.TheVariants as lines
use Rattle.first_moves.specs.declared.names.Names.{Names}
use Rattle.first_moves.specs.declared.names.Names.TheVariants.{Letters, Coordinates}
use Rattle.first_moves.specs.Judged.{count, is_right, is_unknown, solution_of}

-- a point by SGF's letters, or as at the edge of the board, if it has the point
abbrev pub point_text : Names → Place → List ℕ
point_text Letters p = sgf_text p
point_text (Coordinates n) p = if on_board n p then gtp_text n p else sgf_text p

abbrev pub turn_text : Names → Turn → List ℕ
turn_text names Pass = codes "pass"
turn_text names (At p) = point_text names p

abbrev pub turn_texts : Names → List Turn → List ℕ
turn_texts names [] = []
turn_texts names (t ∷ ts) = 32 ∷ (turn_text names t ++ turn_texts names ts)

-- the turns that come before, if there are any
abbrev pub before_text : Names → List Turn → List ℕ
before_text names [] = []
before_text names (t ∷ ts) = codes "after" ++ (turn_texts names (t ∷ ts) ++ codes ": ")

-- what becomes of the mover
abbrev pub worth_text : Judged → List ℕ
worth_text (judged.Right checked) = codes "wins"
worth_text (judged.Refuted checked) = codes "loses"
worth_text judged.Ends = codes "loses"
worth_text judged.Unknown = codes "unknown"

abbrev pub turn_line : Names → List Turn → Found → List ℕ
turn_line names before f = before_text names before ++ (turn_text names f.turn ++ (32 ∷ (worth_text f.judged ++ 10 ∷ [])))

abbrev pub turn_lines : Names → List Turn → List Found → List ℕ
turn_lines names before [] = []
turn_lines names before (f ∷ fs) = turn_line names before f ++ turn_lines names before fs

abbrev pub later_lines : Names → List Later → List ℕ
later_lines names [] = []
later_lines names (l ∷ ls) = turn_lines names l.position.turns.items l.found.items ++ later_lines names ls

abbrev pub solution_name : Solution → List ℕ
solution_name solutions.Unique = codes "unique"
solution_name solutions.Several = codes "several"
solution_name solutions.Lost = codes "lost"
solution_name solutions.Open = codes "open"

-- how many turns win, and about how many nothing is known
abbrev pub tally_text : List ℕ → Solution → ℕ → ℕ → List ℕ
tally_text what solution winning unknown =
    what ++ (32 ∷ (solution_name solution ++ (codes ": " ++ (decimal winning ++ (codes " winning, " ++ (decimal unknown ++ codes " unknown"))))))

abbrev pub solution_text : List Found → List ℕ
solution_text found = let winning = count is_right found in let unknown = count is_unknown found in
    tally_text (codes "solution") (solution_of winning unknown) winning unknown

-- what is said of the last turn of a line that is whole
abbrev pub end_text : Bool → List ℕ
end_text true = codes ", its last"
end_text false = []

-- what is said of the line of play
abbrev pub line_text : LineSolution → Bool → List ℕ
line_text (lines.Unique n) is_whole = codes "line unique to turn " ++ (decimal n ++ end_text is_whole)
line_text (lines.Several n) is_whole = codes "line has several right moves at turn " ++ decimal n
line_text (lines.Open n k) is_whole = codes "line open at turn " ++ (decimal n ++ (codes ": " ++ (decimal k ++ codes " unknown")))
line_text lines.Lost is_whole = codes "no line: every first turn loses"

abbrev pub short_list : Names → List Found → List ℕ
short_list names found = turn_lines names [] found ++ (solution_text found ++ 10 ∷ [])

abbrev pub long_list : Names → List Found → List Later → LineSolution → Bool → List ℕ
long_list names found later solution is_whole =
    turn_lines names [] found ++ (later_lines names later ++ (solution_text found ++ (10 ∷ (line_text solution is_whole ++ 10 ∷ []))))
