-- What is written of who wins a problem, and of how hard it is, after the turns.
--     IsTrap found trap      what is called a trap is a wrong first turn
--     graded_text      the object of each trap, and the one of the problem
use Rattle.std.specs.Prelude.{◌≡◌, ℕ, Bool, true, List, [], ◌∷◌, ◌++◌, codes, decimal, length, Option, Some, None}
use Rattle.std.specs.List.{All, Contains}
use Rattle.go_points.specs.declared.Colour.{Colour}
use Rattle.tool_parts.specs.Says.{letter_text}
use Rattle.first_moves.specs.declared.found.Found.{Found}
use Rattle.first_moves.specs.declared.grade.Trap.{Trap}
use Rattle.first_moves.specs.declared.grade.Lesson.{Lesson}
use Rattle.first_moves.specs.declared.names.Names.{Names}
use Rattle.first_moves.specs.Grade.{grade_of, is_refuted, winner_of}
use Rattle.first_moves.specs.Json.{bool_text, quoted_turns}
use Rattle.first_moves.specs.Judged.{count, is_right, is_unknown, solution_of}
use Rattle.first_moves.specs.Text.{turn_text}

-- A trap is one of the first turns, and a claim of the other side is accepted after it.
abbrev pub IsTrap : List Found → Trap → Type 0
IsTrap found trap = (f : Found) × Contains found f × (trap.turn ≡ f.turn) × (is_refuted f.judged ≡ true)

-- So is each trap of what is found of a problem, if anything is.
abbrev pub HasTraps : List Found → Option Lesson → Type 0
HasTraps found None = Unit
HasTraps found (Some lesson) = All (IsTrap found) lesson.traps.items

-- who wins, as far as that is known of the first turns
abbrev pub winner_found : Colour → List Found → Option Colour
winner_found mover found =
    let winning = count is_right found in winner_of mover (solution_of winning (count is_unknown found)) winning

abbrev pub winner_value : Option Colour → List ℕ
winner_value (Some x) = codes "\"" ++ (letter_text x ++ codes "\"")
winner_value None = codes "null"

abbrev pub trap_text : List ℕ → List ℕ → List ℕ
trap_text turn turns = codes "{\"trap\":\"" ++ (turn ++ (codes "\",\"variation\":[" ++ (turns ++ codes "]}\n")))

abbrev pub trap_object : Names → Trap → List ℕ
trap_object names trap = trap_text (turn_text names trap.turn) (quoted_turns names trap.refutation.turns.items)

abbrev pub trap_objects : Names → List Trap → List ℕ
trap_objects names [] = []
trap_objects names (trap ∷ traps) = trap_object names trap ++ trap_objects names traps

-- the solution for people, how many turns it has, and how many traps there are
abbrev pub solution_text : List ℕ → ℕ → ℕ → List ℕ
solution_text turns depth traps =
    codes ",\"variation\":[" ++ (turns ++ (codes "],\"depth\":" ++ (decimal depth ++ (codes ",\"traps\":" ++ decimal traps))))

abbrev pub solution_fields : Names → Lesson → List ℕ
solution_fields names lesson =
    solution_text (quoted_turns names lesson.solution.turns.items) (length lesson.solution.turns.items) (length lesson.traps.items)

-- The stones that the winner loses on it, whether there is a ko, and how hard that makes it: the grade follows from the points.
abbrev pub grade_text : List ℕ → ℕ → List ℕ → ℕ → ℕ → List ℕ
grade_text solution lost ko points grade =
    solution ++ (codes ",\"sacrifices\":" ++ (decimal lost ++ (codes ",\"ko\":" ++ (ko
    ++ (codes ",\"points\":" ++ (decimal points ++ (codes ",\"grade\":" ++ decimal grade)))))))

abbrev pub grade_fields : Names → Lesson → Bool → ℕ → List ℕ
grade_fields names lesson has_ko points =
    grade_text (solution_fields names lesson) lesson.solution.lost (bool_text has_ko) points (grade_of points)

abbrev pub problem_object : List ℕ → List ℕ → List ℕ
problem_object winner fields = codes "{\"winner\":" ++ (winner ++ (fields ++ codes "}\n"))

abbrev pub lesson_text : Names → List ℕ → Lesson → Bool → ℕ → List ℕ
lesson_text names winner lesson has_ko points =
    trap_objects names lesson.traps.items ++ problem_object winner (grade_fields names lesson has_ko points)

abbrev pub graded_text : Names → List ℕ → Option Lesson → Bool → ℕ → List ℕ
graded_text names winner None has_ko points = problem_object winner []
graded_text names winner (Some lesson) has_ko points = lesson_text names winner lesson has_ko points

-- After this text come the traps and who wins.
abbrev pub IsGraded : Names → Colour → List Found → List ℕ → List ℕ → Type 0
IsGraded names mover found front text =
    (lesson : Option Lesson) × HasTraps found lesson × (has_ko : Bool) × (points : ℕ)
    × (text ≡ front ++ graded_text names (winner_value (winner_found mover found)) lesson has_ko points)
