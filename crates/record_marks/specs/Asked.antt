-- The problem that is asked for: the marks as they are named, and the problem that is marked for them.
--     IsAsked k wanted tree q      the problem of a record with the marks as they are named, at the node with this number
--     IsCompleted zone q made      the same problem with whole chains and the region that is wanted
--     IsSupposed q made      the same problem, maybe after stones were placed
--     IsMarkedFor wanted k tree made      the record with the marks of such a problem
use Rattle.std.specs.Prelude.{◌≡◌, ◌<◌, ◌*◌, ◌↔◌, ℕ, IsTrue, IsFalse, List, [], ◌∷◌, ◌++◌, map, codes, slice_index_or, Option, Some, None, option_map, option_and_then, Ok}
use Rattle.go_points.specs.declared.Colour.{Colour}
use Rattle.go_points.specs.declared.Cell.{Cell}
use Rattle.go_points.specs.declared.Cell.TheVariants.{Empty}
use Rattle.go_points.specs.Grid.{points, side_of, same_cell, cell_at}
use Rattle.go_points.specs.Place.{Place, number_of, place_of}
use Rattle.go_points.specs.Points.{holds_place}
use Rattle.go_chains.specs.Joined.{Joined}
use Rattle.sgf_text.specs.Trees.{Node, GameTree}
use Rattle.target_game.specs.State.{GameProblem, start}
use Rattle.target_game.specs.Problem.{problem_of}
use Rattle.tsumego_problem.specs.Canonical.{colour_name, marks as problem_marks}
use Rattle.tsumego_problem.specs.Walk.{board_size, problem_within, history_limit}
use Rattle.record_marks.specs.declared.marking.Marks.{Marks}
use Rattle.record_marks.specs.declared.marking.Region.{Region}
use Rattle.record_marks.specs.declared.marking.Region.TheVariants.{Proposed, Board, Points}
use Rattle.record_marks.specs.Marked.{marked}
use Rattle.record_marks.specs.Named.{values_named}

-- PL, if a side is named
abbrev pub mover_marks : Option Colour → Node
mover_marks None = []
mover_marks (Some k) = record { ident = codes "PL"; values = colour_name k ∷ [] } ∷ []

-- SQ, if points are named; `None` if a name is none
abbrev pub region_marks : ℕ → Region → Option Node
region_marks n Proposed = Some []
region_marks n Board = Some []
region_marks n (Points text) = option_map (λ values. record { ident = codes "SQ"; values = values } ∷ []) (values_named n text.now)

-- those, and between them TR with the targets that are named
abbrev pub marks_named : ℕ → Marks → Option Node
marks_named n wanted = option_and_then (λ targets. option_map (λ squares.
    mover_marks wanted.mover ++ record { ident = codes "TR"; values = targets } ∷ squares)
    (region_marks n wanted.region)) (values_named n wanted.targets.now)

-- the problem of the tree with these marks at the node of its main line with this number
abbrev pub IsAsked : ℕ → Marks → GameTree → GameProblem → Type 0
IsAsked k wanted tree q =
    (n : ℕ) × (marks : Node) × (board_size (slice_index_or tree.nodes 0 []) ≡ Some n) × (marks_named n wanted ≡ Some marks)
    × (problem_within (Some history_limit) (marked k marks tree) ≡ Ok q)

-- The set has all stones of the chains of these points, and no other points.
abbrev pub AreWhole : List Cell → List Place → List Place → Type 0
AreWhole c named whole = let n = side_of c in
    (p : ℕ) → p < n * n → IsTrue (holds_place whole (place_of n p))
    ↔ ((t : ℕ) × (t < n * n) × IsTrue (holds_place named (place_of n t)) × IsFalse (same_cell (cell_at c t) Empty) × Joined n c t p)

-- The region is the whole board, or the points that are named; which points are proposed is not said.
abbrev pub IsRegion : Region → GameProblem → List Place → Type 0
IsRegion Proposed q region = Unit
IsRegion Board q region = map (number_of q.game.size) region ≡ points q.game.size
IsRegion (Points text) q region = map (number_of q.game.size) region ≡ q.game.region

abbrev pub IsCompleted : Region → GameProblem → GameProblem → Type 0
IsCompleted zone q made =
    (named targets region : List Place) × (map (number_of q.game.size) named ≡ q.game.targets)
    × AreWhole (start q).colouring named targets × IsRegion zone q region
    × (problem_of q.history q.place q.mover q.passes targets region ≡ Ok made)

-- The same side is to move; the targets are whole chains of the position, in which stones may have been placed.
abbrev pub IsSupposed : GameProblem → GameProblem → Type 0
IsSupposed q made =
    (history : List (List Cell)) × (place passes : ℕ)
    × (named targets region : List Place) × (map (number_of q.game.size) named ≡ q.game.targets)
    × AreWhole (slice_index_or history place []) named targets
    × (problem_of history place q.mover passes targets region ≡ Ok made)

-- the number of the node that is named; which node is marked if none is named is not said
abbrev pub IsChosen : Option ℕ → ℕ → Type 0
IsChosen None place = Unit
IsChosen (Some k) place = place ≡ k

-- The new tree is the other one, with the marks of the problem that is asked for at this node of its main line.
abbrev pub IsMarkedFor : Marks → ℕ → GameTree → GameTree → Type 0
IsMarkedFor wanted k tree made =
    (asked complete : GameProblem) × IsAsked k wanted tree asked × IsCompleted wanted.region asked complete
    × (made ≡ marked k (problem_marks complete) tree)
