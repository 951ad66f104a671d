-- A record with the marks of a problem for which stones were placed.
use Rattle.std.specs.Prelude.{◌≡◌, ℕ, List, ◌++◌, map, codes}
use Rattle.go_points.specs.Place.{Place}
use Rattle.go_points.specs.Sgf.{sgf_text}
use Rattle.sgf_text.specs.Trees.{Node, GameTree}
use Rattle.target_game.specs.State.{GameProblem}
use Rattle.tsumego_problem.specs.Canonical.{property, marks as problem_marks}
use Rattle.record_marks.specs.declared.marking.Marks.{Marks}
use Rattle.record_marks.specs.Asked.{IsAsked, IsSupposed}
use Rattle.record_marks.specs.Marked.{marked}

-- AB and AW with these points, each left out if it has no points
abbrev pub stones : List Place → List Place → Node
stones black white = property (codes "AB") (map sgf_text black) ++ property (codes "AW") (map sgf_text white)

-- The new tree is the other one, with these stones and the marks of the problem that is asked for at this node of its main line.
abbrev pub IsMarkedWith : Marks → ℕ → List Place → List Place → GameTree → GameTree → Type 0
IsMarkedWith wanted k black white tree made =
    (asked complete : GameProblem) × IsAsked k wanted tree asked × IsSupposed asked complete
    × (made ≡ marked k (stones black white ++ problem_marks complete) tree)

abbrev pub IsMarkedBy : Marks → ℕ → GameTree → GameTree → Type 0
IsMarkedBy wanted k tree made = (black white : List Place) × IsMarkedWith wanted k black white tree made
