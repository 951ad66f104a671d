-- What follows a node: the rest of its sequence, or the child trees after it.
use Rattle.solution_tree.proofs.Common.{◌≡◌, true, false, not, nat_eq, nat_lt, List, [], ◌∷◌, length, refl, ◌∙◌, arith, rules, Node, GameTree, no_tree, tree_then, forest_of, is_forest, nodes_of, has_children, has_several, follows}
use Rattle.std.proofs.lemmas.Bool.{le-ltb}

some_length : {A : Type 0} (x : A) (xs : List A) → nat_eq (length (x ∷ xs)) 0 ≡ false
some_length x xs = search rules

-- nothing follows, or something does
pub children_behind : (nodes : List Node) (trees : List GameTree) → is_forest (forest_of trees) ≡ true → nat_eq (length nodes) 0 ≡ true → not (nat_eq (length trees) 0) ≡ has_children (follows nodes trees)
children_behind (node ∷ nodes) trees good none = absurd (cc (some_length node nodes, none))
children_behind [] [] good none = refl
children_behind [] (t ∷ ts) good none = search rules

pub sequence_goes_on : (nodes : List Node) (trees : List GameTree) → nat_eq (length nodes) 0 ≡ false → true ≡ has_children (follows nodes trees)
sequence_goes_on [] trees some = absurd (cc some)
sequence_goes_on (node ∷ nodes) trees some = refl

-- several nodes follow at once
pub one_in_sequence : (nodes : List Node) (trees : List GameTree) → nat_eq (length nodes) 0 ≡ false → false ≡ has_several (follows nodes trees)
one_in_sequence [] trees some = absurd (cc some)
one_in_sequence (node ∷ nodes) trees some = refl

pub several_behind : (nodes : List Node) (trees : List GameTree) → is_forest (forest_of trees) ≡ true → nat_eq (length nodes) 0 ≡ true → nat_lt 1 (length trees) ≡ has_several (follows nodes trees)
several_behind (node ∷ nodes) trees good none = absurd (cc (some_length node nodes, none))
several_behind [] [] good none = le-ltb 1 0 (omega arith)
several_behind [] (t ∷ []) good none = le-ltb 1 1 (omega arith) ∙ first t.nodes
  where
    first : (ns : List Node) → false ≡ has_several (nodes_of (tree_then ns t.children no_tree))
    first [] = refl
    first (n ∷ ns) = refl
several_behind [] (t ∷ u ∷ us) good none = search rules
