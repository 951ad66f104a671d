-- The problem of a tree: a walk along the main line (this project's own).
use Rattle.std.specs.Prelude.{ℕ, ◌+◌, ◌^◌, Bool, true, false, not, List, [], ◌∷◌, ◌++◌, length, map, take, codes, position, slice_index_or, unwrap_or, ◌&&◌, ◌||◌, nat_lt, nat_le, is_none, Option, Some, None, option_map, option_and_then, Result, Ok, Err, if◌then◌else◌}
use Rattle.std.specs.List.{list_any, list_all}
use Rattle.std.specs.Str.{bytes_eq}
use Rattle.go_points.specs.declared.TheConstants.{MAX_SIZE}
use Rattle.go_points.specs.declared.Colour.{Colour}
use Rattle.go_points.specs.declared.Colour.TheVariants.{Black, White}
use Rattle.go_points.specs.declared.Cell.{Cell}
use Rattle.go_points.specs.declared.Cell.TheVariants.{Empty, Stone}
use Rattle.go_points.specs.Grid.{opponent_of, same_cell, points, cell_at}
use Rattle.go_points.specs.Liberty.{all_reach_empty}
use Rattle.go_points.specs.Move.{after_move}
use Rattle.go_points.specs.Ply.{Ply, pass, move}
use Rattle.go_turns.specs.History.{has_occurred, place_in}
use Rattle.target_game.specs.declared.TheConstants.{MAX_HISTORY}
use Rattle.target_game.specs.Legal.{holds_point}
use Rattle.target_game.specs.State.{GameProblem}
use Rattle.sgf_text.specs.Trees.{Node, Forest, no_tree, tree_then, GameTree}
use Rattle.sgf_text.specs.Nodes.{values_at}
use Rattle.tsumego_problem.specs.Values.{points_of, turn_in, size_in, colour_in, trim}
use Rattle.tsumego_problem.specs.declared.read.TheConstants.{DEFAULT_SIZE}
use Rattle.tsumego_problem.specs.declared.fault.SingleProperty.TheVariants as single
use Rattle.tsumego_problem.specs.declared.fault.TurnFaultCause.TheVariants.{Occupied, Repeats}
use Rattle.tsumego_problem.specs.declared.fault.ProblemFault.{ProblemFault}
use Rattle.tsumego_problem.specs.declared.fault.ProblemFault.TheVariants as faults

-- The main line takes the first child tree at each branching. Its nodes have the numbers 0, 1, 2 ..
abbrev pub line_below : Forest → List Node
line_below no_tree = []
line_below (tree_then nodes children others) = nodes ++ line_below children

abbrev pub main_line : GameTree → List Node
main_line tree = tree.nodes ++ line_below tree.children

-- Does the node have a property of this name?
abbrev pub is_empty : {X : Type 0} → List X → Bool
is_empty [] = true
is_empty (x ∷ xs) = false

abbrev pub has : List ℕ → Node → Bool
has name node = not (is_empty (values_at name node))

-- Is it a problem node? The first of the main line is the problem node.
abbrev pub is_marked : Node → Bool
is_marked node = has (codes "TR") node || has (codes "SQ") node

abbrev pub problem_node : GameTree → Option ℕ
problem_node tree = position is_marked (main_line tree)

-- the number, if a `usize` can hold it
abbrev pub usize_of : ℕ → Option ℕ
usize_of k = if nat_lt k (2 ^ 64) then Some k else None

abbrev pub has_setup : Node → Bool
has_setup node = has (codes "AB") node || has (codes "AW") node || has (codes "AE") node

abbrev pub has_turn : Node → Bool
has_turn node = has (codes "B") node || has (codes "W") node

-- ---- what a node says on a board of n rows and columns, once its values have been found good

abbrev pub points_at : ℕ → List ℕ → Node → List ℕ
points_at n name node = unwrap_or (points_of n (values_at name node)) []

-- the colouring that AB, AW and AE make of another
abbrev pub assigned : ℕ → Node → List Cell → List Cell
assigned n node c = map cell (points n)
  where
    cell : ℕ → Cell
    cell p =
        if holds_point (points_at n (codes "AB") node) p then Stone Black
        else (if holds_point (points_at n (codes "AW") node) p then Stone White
        else (if holds_point (points_at n (codes "AE") node) p then Empty
        else cell_at c p))

-- the colour of a turn and what it is, by the values of B and W
abbrev pub turn_of : ℕ → List (List ℕ) → List (List ℕ) → Option (Colour × Ply)
turn_of n (value ∷ values) whites = option_map (λ t. (Black, t)) (turn_in n value)
turn_of n [] (value ∷ values) = option_map (λ t. (White, t)) (turn_in n value)
turn_of n [] [] = None

abbrev pub turn_at : ℕ → Node → Option (Colour × Ply)
turn_at n node = turn_of n (values_at (codes "B") node) (values_at (codes "W") node)

-- the colour that PL gives the next turn to
abbrev pub player_of : List (List ℕ) → Option Colour
player_of [] = None
player_of (value ∷ values) = colour_in value

abbrev pub player_at : Node → Option Colour
player_at node = player_of (values_at (codes "PL") node)

-- ---- the refusals

-- the fault, if the test is true
abbrev pub when : Bool → ProblemFault → Option ProblemFault
when test fault = if test then Some fault else None

-- the first fault of the list
abbrev pub first_fault : List (Option ProblemFault) → Option ProblemFault
first_fault [] = None
first_fault (None ∷ others) = first_fault others
first_fault (Some fault ∷ others) = Some fault

abbrev pub has_many : List ℕ → Node → Bool
has_many name node = nat_lt 1 (length (values_at name node))

abbrev pub is_bad : ℕ → List ℕ → Node → Bool
is_bad n name node = is_none (points_of n (values_at name node))

abbrev pub is_bad_turn : ℕ → List ℕ → Node → Bool
is_bad_turn n name node = list_any (λ value. is_none (turn_in n value)) (values_at name node)

abbrev pub share_point : ℕ → List ℕ → List ℕ → Node → Bool
share_point n a b node = list_any (holds_point (points_at n a node)) (points_at n b node)

-- refusals 4 to 8 of the node with number k: those that depend only on the contents of the node
abbrev pub node_fault : ℕ → ℕ → Node → Option ProblemFault
node_fault n k node = first_fault (
    when (has_many (codes "B") node) (faults.ManyValues single.B k)
    ∷ when (has_many (codes "W") node) (faults.ManyValues single.W k)
    ∷ when (has_many (codes "PL") node) (faults.ManyValues single.PL k)
    ∷ when (list_any (λ name. is_bad n name node) (codes "AB" ∷ codes "AW" ∷ codes "AE" ∷ codes "TR" ∷ codes "SQ" ∷ [])) (faults.BadPoint k)
    ∷ when (is_bad_turn n (codes "B") node || is_bad_turn n (codes "W") node) (faults.BadPoint k)
    ∷ when (share_point n (codes "AB") (codes "AW") node || share_point n (codes "AB") (codes "AE") node || share_point n (codes "AW") (codes "AE") node) (faults.SharedPoint k)
    ∷ when (has_turn node && has_setup node) (faults.MixedNode k)
    ∷ when (has (codes "B") node && has (codes "W") node) (faults.BothColours k)
    ∷ [])

-- ---- the walk

-- The state of the walk: the colourings that have occurred, each once, in the order of first occurrence; the present one; the
-- mover; and the passes.
pub record Walk : Type 0 where
  pub history : List (List Cell)
  pub present : List Cell
  pub mover : Colour
  pub passes : ℕ

-- the colourings with one more, if it is new
abbrev pub joined_by : List (List Cell) → List Cell → List (List Cell)
joined_by history c = if has_occurred history c then history else history ++ c ∷ []

-- Does some stone not reach empty?
abbrev pub has_no_liberty : ℕ → List Cell → Bool
has_no_liberty n c = not (all_reach_empty n c)

-- The walk begins with the colouring that the root's setup makes of the empty board.
abbrev pub opening : ℕ → Node → Walk
opening n root = let c = assigned n root (map (λ p. Empty) (points n)) in
    record { history = c ∷ []; present = c; mover = Black; passes = 0 }

-- The walk after a pass, after a move that gives this colouring, and after a setup that gives it.
abbrev pub walk_after_pass : Colour → Walk → Walk
walk_after_pass colour w = record w { mover = opponent_of colour; passes = w.passes + 1 }

abbrev pub walk_after_move : Colour → List Cell → Walk → Walk
walk_after_move colour c w = record { history = w.history ++ c ∷ []; present = c; mover = opponent_of colour; passes = 0 }

abbrev pub walk_after_setup : Node → List Cell → Walk → Walk
walk_after_setup node c w = record { history = joined_by w.history c; present = c; mover = unwrap_or (player_at node) w.mover; passes = 0 }

-- The walk after a PL on its own, which changes only whose turn it is.
abbrev pub walk_after_player : Node → Walk → Walk
walk_after_player node w = record w { mover = unwrap_or (player_at node) w.mover }

-- The move must be at an empty point and give no colouring that has occurred (refusal 9).
abbrev pub moved_to : ℕ → Colour → List Cell → Walk → Bool → Option ℕ → Result Walk ProblemFault
moved_to k colour c w false earlier = Err (faults.IllegalTurn k Occupied)
moved_to k colour c w true (Some earlier) = Err (faults.IllegalTurn k (Repeats earlier))
moved_to k colour c w true None = Ok (walk_after_move colour c w)

-- The turn of a node.
abbrev pub turned : ℕ → ℕ → Colour → Ply → Walk → Result Walk ProblemFault
turned n k colour pass w = Ok (walk_after_pass colour w)
turned n k colour (move p) w = let c = after_move n w.present colour p in moved_to k colour c w (same_cell (cell_at w.present p) Empty) (place_in w.history c)

-- The setup of a node. Each chain must have a liberty after it (refusal 10). At the root it is assigned once more, which changes nothing.
abbrev pub set_to : ℕ → Node → List Cell → Walk → Bool → Result Walk ProblemFault
set_to k node c w true = Err (faults.NoLiberty k)
set_to k node c w false = Ok (walk_after_setup node c w)

-- What the node's turn or setup does.
abbrev pub changed_by : ℕ → ℕ → Node → Walk → Option (Colour × Ply) → Bool → Result Walk ProblemFault
changed_by n k node w (Some turn) setup = turned n k turn.0 turn.1 w
changed_by n k node w None true = let c = assigned n node w.present in set_to k node c w (has_no_liberty n c)
changed_by n k node w None false = Ok (walk_after_player node w)

abbrev pub changed : ℕ → ℕ → Node → Walk → Result Walk ProblemFault
changed n k node w = changed_by n k node w (turn_at n node) (has_setup node)

-- the targets of a problem node, and its region, which is the whole board without SQ
abbrev pub targets_at : ℕ → Node → List ℕ
targets_at n node = points_at n (codes "TR") node

abbrev pub region_at : ℕ → Node → List ℕ
region_at n node = if has (codes "SQ") node then points_at n (codes "SQ") node else points n

-- Are the targets stones of one colour, and is there at least one?
abbrev pub are_targets : List Cell → List ℕ → Bool
are_targets c [] = false
are_targets c (p ∷ ps) = not (same_cell (cell_at c p) Empty) && list_all (λ q. same_cell (cell_at c q) (cell_at c p)) ps

-- refusals 11 to 14, checked after the node's turn or setup; the history may have any length if there is no limit
abbrev pub late_fault : Option ℕ → ℕ → ℕ → Node → Walk → Option ProblemFault
late_fault limit n k node w = first_fault (
    when (is_marked node && not (are_targets w.present (targets_at n node))) (faults.BadTargets k)
    ∷ when (is_marked node && nat_le 2 w.passes) (faults.Ended k)
    ∷ when (has (codes "PL") node && not (has_turn node) && is_none (player_at node)) (faults.BadColour k)
    ∷ when (is_over limit (length w.history)) (faults.LongHistory k)
    ∷ [])
  where
    is_over : Option ℕ → ℕ → Bool
    is_over None count = false
    is_over (Some most) count = nat_lt most count

-- the walk, if there is no fault
abbrev pub unless : Option ProblemFault → Walk → Result Walk ProblemFault
unless None w = Ok w
unless (Some fault) w = Err fault

infixl 10 ◌>>=◌
abbrev pub ◌>>=◌ : {A B : Type 0} → Result A ProblemFault → (A → Result B ProblemFault) → Result B ProblemFault
(Ok x) >>= f = f x
(Err fault) >>= f = Err fault

-- one node: refusals 4 to 8, then 9 or 10, then 11 to 14
abbrev pub walk_node : Option ℕ → ℕ → ℕ → Node → Walk → Result Walk ProblemFault
walk_node limit n k node w = unless (node_fault n k node) w >>= changed n k node >>= (λ v. unless (late_fault limit n k node v) v)

-- the nodes of the main line in turn, the first of which has the number k
abbrev pub walk : Option ℕ → ℕ → ℕ → List Node → Walk → Result Walk ProblemFault
walk limit n k [] w = Ok w
walk limit n k (node ∷ nodes) w = walk_node limit n k node w >>= (λ v. walk limit n (k + 1) nodes v)

-- ---- the problem

-- FF[4], GM and SZ, of the root only: 1 and the default size if they are not given
abbrev pub is_one : List (List ℕ) → Bool
is_one [] = true
is_one (value ∷ values) = is_empty values && bytes_eq (trim value) (codes "1")

abbrev pub is_go : Node → Bool
is_go root = is_one (values_at (codes "GM") root)

-- the number, if it is the number of rows of a board
abbrev pub board_of : ℕ → Option ℕ
board_of n = if nat_le 1 n && nat_le n MAX_SIZE then Some n else None

abbrev pub size_of : List (List ℕ) → Option ℕ
size_of [] = Some DEFAULT_SIZE
size_of (value ∷ []) = option_and_then board_of (size_in value)
size_of (value ∷ other ∷ values) = None

abbrev pub board_size : Node → Option ℕ
board_size root = size_of (values_at (codes "SZ") root)

abbrev pub root_of : GameTree → Node
root_of tree = slice_index_or (main_line tree) 0 []

-- the colour of the targets, which is the defender's
abbrev pub colour_of : List Cell → List ℕ → Colour
colour_of c [] = Black
colour_of c (p ∷ ps) = elim (cell_at c p) [ Stone k ↦ k | Empty ↦ Black ]

-- what the walk up to the problem node gives
abbrev pub problem_at : ℕ → Node → Walk → GameProblem
problem_at n node w = record {
  game = record { size = n; targets = targets_at n node; defender = colour_of w.present (targets_at n node); region = region_at n node };
  history = w.history;
  place = unwrap_or (place_in w.history w.present) 0;
  mover = w.mover;
  passes = w.passes;
}

-- The problem of a tree, or its first refusal: 1, 2, 3, and then node by node.
abbrev pub problem_on : Option ℕ → GameTree → Bool → Option ℕ → Option ℕ → Result GameProblem ProblemFault
problem_on limit tree false _ _ = Err faults.Game
problem_on limit tree true None _ = Err faults.Size
problem_on limit tree true (Some n) None = Err faults.NoProblemNode
problem_on limit tree true (Some n) (Some k) =
    walk limit n 0 (take (k + 1) (main_line tree)) (opening n (root_of tree)) >>= (λ w. Ok (problem_at n (slice_index_or (main_line tree) k []) w))

abbrev pub problem_within : Option ℕ → GameTree → Result GameProblem ProblemFault
problem_within limit tree = problem_on limit tree (is_go (root_of tree)) (board_size (root_of tree)) (problem_node tree)

abbrev pub problem_of : GameTree → Result GameProblem ProblemFault
problem_of tree = problem_within None tree

-- the longest history of a problem that is read
abbrev pub history_limit : ℕ
history_limit = MAX_HISTORY
