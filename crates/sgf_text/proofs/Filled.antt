-- What an open tree becomes with what is still to come, and that no byte changes it.
use Rattle.sgf_text.proofs.Common.{◌≡◌, ℕ, List, [], ◌∷◌, ◌++◌, sym, ap, ◌∙◌, refl, rules, arith, true, false, map, filter, append_assoc, append-nil, nat_tests, Sign, ParserState, AfterOpen, AfterSemicolon, InIdent, InValue, AfterBackslash, AfterChild, Transition, To, is_upper, joined, Node, Forest, tree_then, GameTree, joined_forest, transition, added, forest_join, Parser, led, node_ended, can_close, begun_in, opened_in, closed_in, IsSoundWord, IsSoundProperty, IsSoundNode}
use Rattle.sgf_text.proofs.Signs.{Means}
use Rattle.sgf_text.proofs.Machine.{Front, front, ended, closed, begun, kept}
use Rattle.sgf_text.proofs.Sound.{Fits}
use Rattle.sgf_text.proofs.ForestLemmas.{join_none, join_joined}
use Rattle.sgf_text.proofs.JoinedLemmas.{joined_onto, joined_is}
use Rattle.sgf_text.proofs.OpenSound.{can_begin}

abbrev pub ident_filled : ParserState → Parser → Front → List ℕ
ident_filled (InIdent has) o F = o.word ++ filter is_upper F.word
ident_filled place o F = o.ident

abbrev pub values_filled : ParserState → Parser → Front → List (List ℕ)
values_filled InValue o F = o.values ++ (o.word ++ F.word) ∷ F.values
values_filled AfterBackslash o F = o.values ++ (o.word ++ F.word) ∷ F.values
values_filled place o F = o.values ++ F.values

-- the open node, with a property of this name and these values and what comes after it
abbrev pub node_with : Parser → Front → List ℕ → List (List ℕ) → List Node
node_with o F name values = o.tree.nodes ++ joined_onto (added o.properties name values) F.properties ∷ map joined F.nodes

abbrev pub nodes_filled : ParserState → Parser → Front → List Node
nodes_filled AfterOpen o F = o.tree.nodes ++ map joined F.nodes
nodes_filled AfterChild o F = o.tree.nodes ++ map joined F.nodes
nodes_filled AfterSemicolon o F = o.tree.nodes ++ joined_onto o.properties F.properties ∷ map joined F.nodes
nodes_filled place o F = node_with o F (ident_filled place o F) (values_filled place o F)

-- a tree goes to the one round it, and so on
abbrev pub around_filled : List GameTree → List Node → Forest → List Forest → GameTree
around_filled [] nodes children fs = record { nodes = nodes; children = children }
around_filled (a ∷ more) nodes children [] = record { nodes = nodes; children = children }
around_filled (a ∷ more) nodes children (f ∷ fs) = around_filled more a.nodes (forest_join a.children (tree_then nodes children (joined_forest f))) fs

abbrev pub filled : ParserState → Parser → Front → GameTree
filled place o F = around_filled o.outer (nodes_filled place o F) (forest_join o.tree.children (joined_forest F.trees)) F.outer

-- ---- letters

filter_on : (c : ℕ) (w : List ℕ) → is_upper c ≡ true → filter is_upper (c ∷ w) ≡ c ∷ filter is_upper w
filter_on c w e = rw e refl

filter_off : (c : ℕ) (w : List ℕ) → is_upper c ≡ false → filter is_upper (c ∷ w) ≡ filter is_upper w
filter_off c w e = rw e refl

-- ---- a byte that leads on

module _ (o : Parser) (G : Front) where
  -- the same name and the same values
  same_property : (i j : List ℕ) (vs ws : List (List ℕ)) → i ≡ j → vs ≡ ws → around_filled o.outer (node_with o G i vs) (forest_join o.tree.children (joined_forest G.trees)) G.outer ≡ around_filled o.outer (node_with o G j ws) (forest_join o.tree.children (joined_forest G.trees)) G.outer
  same_property i j vs ws h g = search rules

  -- a name begins with an upper-case letter
  first_upper : (c : ℕ) → is_upper c ≡ true → (w : List ℕ) → w ≡ [] → (w ++ c ∷ []) ++ filter is_upper G.word ≡ filter is_upper (c ∷ G.word)
  first_upper c u w e = ap (λ x. (x ++ c ∷ []) ++ filter is_upper G.word) e ∙ sym (filter_on c G.word u)

  first_lower : (c : ℕ) → is_upper c ≡ false → (w : List ℕ) → w ≡ [] → w ++ filter is_upper G.word ≡ filter is_upper (c ∷ G.word)
  first_lower c u w e = ap (λ x. x ++ filter is_upper G.word) e ∙ sym (filter_off c G.word u)

  word_more : (c : ℕ) (w : List ℕ) → o.values ++ ((w ++ c ∷ []) ++ G.word) ∷ G.values ≡ o.values ++ (w ++ c ∷ G.word) ∷ G.values
  word_more c w = ap (λ (x : List ℕ). o.values ++ x ∷ G.values) (append_assoc w (c ∷ []) G.word)

abbrev pub Led : Parser → Front → ParserState → Sign → ℕ → Transition → Type 0
Led o G P s c (To next) = (rest : List ℕ) → Fits next G rest → filled next (led P s c o) G ≡ filled P o (kept P s c G)
Led o G P s c m = Unit {0}

-- the same, after a property that has ended
module _ (o : Parser) (G : Front) (i : List ℕ) where
  after_property : (j : List ℕ) → i ≡ j → (w : List (List ℕ)) → w ≡ o.values → around_filled o.outer (o.tree.nodes ++ joined_onto (added (added o.properties o.ident o.values) i ([] ++ G.values)) G.properties ∷ map joined G.nodes) (forest_join o.tree.children (joined_forest G.trees)) G.outer
      ≡ around_filled o.outer (o.tree.nodes ++ joined_onto (added (added o.properties o.ident w) j G.values) G.properties ∷ map joined G.nodes) (forest_join o.tree.children (joined_forest G.trees)) G.outer
  after_property j h w g = search rules

pub led_filled : (o : Parser) (G : Front) (P : ParserState) (s : Sign) (c : ℕ) → Means s c → IsSoundWord P o.word → IsSoundProperty P o.ident o.values → Led o G P s c (transition P s)
led_filled o G P s c h g e = grind (arith, nat_tests, same_property, first_upper, first_lower, append_assoc, filter_on, filter_off, append-nil, word_more, after_property)

-- ---- a tree that opens, a node that begins, a tree that ends

-- the nodes of a tree whose node has ended
settled_nodes : (P : ParserState) (o : Parser) (f : Forest) (fs : List Forest) (r : List ℕ) → can_close P ≡ true → (node_ended P o).tree.nodes ≡ nodes_filled P o (front [] [] [] [] f fs r)
settled_nodes P o f fs r h = search rules

settled_children : (P : ParserState) (o : Parser) → (node_ended P o).tree.children ≡ o.tree.children
settled_children P o = search rules

pub opened_filled : (P : ParserState) (o : Parser) → can_close P ≡ true → (ns : List Node) (f x : Forest) (xs : List Forest) (r : List ℕ) → filled AfterOpen (opened_in (node_ended P o)) (front [] [] [] ns f (x ∷ xs) r) ≡ filled P o (front [] [] [] [] (tree_then ns f x) xs r)
opened_filled P o h ns f x xs r = search rules

pub closed_filled : (P : ParserState) (o : Parser) → can_close P ≡ true → (a : GameTree) (os : List GameTree) → o.outer ≡ a ∷ os → (G : Front) → G.nodes ≡ [] → filled AfterChild (closed_in (node_ended P o) a os) G ≡ filled P o (closed G)
closed_filled P o h a os g G e = grind (arith, nat_tests, append-nil, join_joined, settled_nodes, closed, settled_children, join_none)

pub last_filled : (P : ParserState) (o : Parser) → can_close P ≡ true → o.outer ≡ [] → (rest : List ℕ) → (node_ended P o).tree ≡ filled P o (ended rest)
last_filled P o h g rest = grind (arith, nat_tests, settled_nodes, settled_children, join_none, ended)

pub begun_filled : (P : ParserState) (o : Parser) → can_begin P ≡ true → IsSoundNode P o.properties → (G : Front) → filled AfterSemicolon (begun_in (node_ended P o)) G ≡ filled P o (begun G)
begun_filled P o h g G = grind (arith, nat_tests, joined_onto, joined_is, append_assoc, append-nil)
