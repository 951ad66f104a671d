-- A record with the marks of a problem: no node of the main line before them has TR or SQ.
use Rattle.std.specs.Prelude.{◌||◌, ℕ, ◌-◌, List, [], ◌∷◌, ◌++◌, length, map, take, drop, codes, nat_lt, if◌then◌else◌}
use Rattle.sgf_text.specs.Trees.{Node, Forest, no_tree, tree_then, GameTree}
use Rattle.sgf_text.specs.Nodes.{without}
use Rattle.tsumego_problem.specs.Walk.{has, has_turn, has_setup}

-- the node without TR and SQ
abbrev pub unmarked : Node → Node
unmarked node = without (codes "TR") (without (codes "SQ") node)

-- the node without PL, if the marks have it
abbrev pub unplayed : Node → Node → Node
unplayed marks node = if has (codes "PL") marks then without (codes "PL") node else node

-- The marks in the node itself; or in a node after it, if it has a move, beside which PL is ignored, or if stones are placed with
-- the marks.
abbrev pub marked_here : Node → Node → List Node
marked_here marks node =
    if has_turn node || has_setup marks then unmarked node ∷ marks ∷ [] else (unplayed marks (unmarked node) ++ marks) ∷ []

-- the nodes from the marked one on
abbrev pub marked_front : Node → List Node → List Node
marked_front marks [] = []
marked_front marks (node ∷ nodes) = marked_here marks node ++ nodes

-- the nodes of a sequence, in which the one with this number is marked
abbrev pub marked_nodes : ℕ → Node → List Node → List Node
marked_nodes k marks nodes = map unmarked (take k nodes) ++ marked_front marks (drop k nodes)

-- the child trees, the first of which continues the main line; all others stay as they are
abbrev pub marked_forest : ℕ → Node → Forest → Forest
marked_forest k marks no_tree = no_tree
marked_forest k marks (tree_then nodes children others) =
    if nat_lt k (length nodes) then tree_then (marked_nodes k marks nodes) children others
    else tree_then (map unmarked nodes) (marked_forest (k - length nodes) marks children) others

-- the tree in which the node of the main line with this number is marked
abbrev pub marked : ℕ → Node → GameTree → GameTree
marked k marks tree =
    if nat_lt k (length tree.nodes) then record { nodes = marked_nodes k marks tree.nodes; children = tree.children }
    else record { nodes = map unmarked tree.nodes; children = marked_forest (k - length tree.nodes) marks tree.children }
