-- What an open tree keeps, step by step.
use Rattle.sgf_text.proofs.Common.{◌≡◌, ℕ, List, [], ◌∷◌, ◌++◌, refl, rules, arith, Bool, true, false, IsTrue, list_all, and_from, and_parts, nat_tests, Sign, ParserState, AfterOpen, AfterSemicolon, AfterValue, Opens, Begins, Closes, Property, is_node, Node, GameTree, is_tree, is_forest, are_nodes, transition, added, with_node, Parser, node_ended, can_close, IsSound, IsSoundProperty, IsSoundNode, IsSoundTree}
use Rattle.sgf_text.proofs.AddedLemmas.{added_good}

abbrev pub open_at : ParserState → List ℕ → List ℕ → List (List ℕ) → List Property → GameTree → List GameTree → ℕ → Parser
open_at P w i vs ps t os n = record { state = P; word = w; ident = i; values = vs; properties = ps; tree = t; outer = os; nodes = n }

-- ---- which places a byte can come to

abbrev pub can_begin : ParserState → Bool
can_begin AfterOpen = true
can_begin AfterSemicolon = true
can_begin AfterValue = true
can_begin state = false

pub closes_at : (P : ParserState) (s : Sign) → transition P s ≡ Closes → can_close P ≡ true
closes_at P s h = search rules

pub opens_at : (P : ParserState) (s : Sign) → transition P s ≡ Opens → can_close P ≡ true
opens_at P s h = search rules

pub begins_at : (P : ParserState) (s : Sign) → transition P s ≡ Begins → can_begin P ≡ true
begins_at P s h = search rules

-- ---- nodes that end

pub value_node : (i : List ℕ) (vs : List (List ℕ)) (ps : List Property) → IsSoundProperty AfterValue i vs → IsTrue (is_node ps) → IsTrue (is_node (added ps i vs))
value_node i vs ps s h = added_good i vs s.0 s.1 s.2 ps h

pub all_nodes : (ns : List Node) (n : Node) → IsTrue (list_all is_node ns) → IsTrue (is_node n) → IsTrue (list_all is_node (ns ++ n ∷ []))
all_nodes [] n h g = and_from (is_node n) true g refl
all_nodes (x ∷ xs) n h g = let b = and_parts (is_node x) (list_all is_node xs) h in and_from (is_node x) (list_all is_node (xs ++ n ∷ [])) b.0 (all_nodes xs n b.1 g)

some_nodes : (ns : List Node) (n : Node) → IsTrue (list_all is_node (ns ++ n ∷ [])) → IsTrue (are_nodes (ns ++ n ∷ []))
some_nodes [] n h = h
some_nodes (x ∷ xs) n h = h

one_more : (t : GameTree) (n : Node) → IsTrue (list_all is_node t.nodes) × IsTrue (is_forest t.children) → IsTrue (is_node n) → IsTrue (is_tree (with_node t n))
one_more t n h g = and_from (are_nodes (t.nodes ++ n ∷ [])) (is_forest t.children) (some_nodes t.nodes n (all_nodes t.nodes n h.0 g)) h.1

-- the innermost tree is one where it can end
pub ended_good : (P : ParserState) (w i : List ℕ) (vs : List (List ℕ)) (ps : List Property) (t : GameTree) (os : List GameTree) (n : ℕ)
    → IsSoundProperty P i vs → IsSoundNode P ps → IsSoundTree P t → can_close P ≡ true → IsTrue (is_tree (node_ended P (open_at P w i vs ps t os n)).tree)
ended_good P w i vs ps t os n h g e f = grind (arith, nat_tests, one_more, value_node)

pub tree_good : (o : Parser) → IsSound o → can_close o.state ≡ true → IsTrue (is_tree (node_ended o.state o).tree)
tree_good o s c = ended_good o.state o.word o.ident o.values o.properties o.tree o.outer o.nodes s.property s.properties s.tree c

-- ---- what stays when a node ends

pub ended_outer : (P : ParserState) (o : Parser) → (node_ended P o).outer ≡ o.outer
ended_outer P o = search rules
