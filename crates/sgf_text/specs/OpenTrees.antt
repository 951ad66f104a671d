-- What a reader of trees holds between two bytes, and what each byte does to it. These definitions are for private functions: no
-- public contract rests on them.
use Rattle.std.specs.Prelude.{◌≡◌, ◌≢◌, ℕ, ◌+◌, Bool, true, false, List, [], ◌∷◌, ◌++◌, length, map, nat_lt, position, IsTrue, Option, Some, None, Result, Ok, Err}
use Rattle.std.specs.List.{list_all}
use Rattle.std.specs.Str.{bytes_eq}
use Rattle.std.specs.BTreeMap.{BTreeMap, get}
use Rattle.sgf_text.specs.declared.followers.Sign.{Sign}
use Rattle.sgf_text.specs.declared.followers.Sign.TheVariants.{Upper, Lower, CloseSquare}
use Rattle.sgf_text.specs.declared.followers.ParserState.{ParserState}
use Rattle.sgf_text.specs.declared.followers.ParserState.TheVariants.{AfterOpen, AfterSemicolon, InIdent, AfterIdent, InValue, AfterBackslash, AfterValue, AfterChild}
use Rattle.sgf_text.specs.declared.followers.Transition.{Transition}
use Rattle.sgf_text.specs.declared.followers.Transition.TheVariants.{Opens, Begins, Closes, To, Refused}
use Rattle.sgf_text.specs.declared.fault.SgfFault.{SgfFault}
use Rattle.sgf_text.specs.declared.fault.SgfFault.TheVariants.{Syntax, TooDeep, TooMany, Memory}
use Rattle.sgf_text.specs.declared.node.Property.{Property}
use Rattle.sgf_text.specs.Bytes.{is_upper, bytes_order}
use Rattle.sgf_text.specs.Nodes.{is_value_after, is_value, is_ident, is_named, is_node}
use Rattle.sgf_text.specs.Trees.{Node, Forest, no_tree, tree_then, GameTree}
use Rattle.sgf_text.specs.Text.{is_tree, is_forest}
use Rattle.sgf_text.specs.Followers.{depth_limit, node_limit}

-- the values go to the property of this name, which is appended if there is none
abbrev pub added : List Property → List ℕ → List (List ℕ) → List Property
added [] name values = record { ident = name; values = values } ∷ []
added (p ∷ ps) name values = elim (is_named name p) [
  | true ↦ record { ident = p.ident; values = p.values ++ values } ∷ ps
  | false ↦ p ∷ added ps name values
]

abbrev pub names_of : List Property → List (List ℕ)
names_of ps = map (λ p. p.ident) ps

-- the map has the place of each name among these
abbrev pub ArePlaces : BTreeMap (List ℕ) ℕ → List (List ℕ) → Type 0
ArePlaces places names = (name : List ℕ) → get bytes_order places name ≡ position (bytes_eq name) names

-- the trees of the first and then those of the second
abbrev pub forest_join : Forest → Forest → Forest
forest_join no_tree g = g
forest_join (tree_then nodes children others) g = tree_then nodes children (forest_join others g)

-- the tree with one more child tree
abbrev pub with_child : GameTree → GameTree → GameTree
with_child tree child = record { nodes = tree.nodes; children = forest_join tree.children (tree_then child.nodes child.children no_tree) }

abbrev pub with_node : GameTree → Node → GameTree
with_node tree node = record { nodes = tree.nodes ++ node ∷ []; children = tree.children }

abbrev pub bare_tree : GameTree
bare_tree = record { nodes = []; children = no_tree }

-- the state of the parser; the letters of the open name or the bytes of the open value; the open property's name and values; the open
-- node's properties; what has ended of the innermost open tree, and of those round it from within; the nodes begun
pub record Parser : Type 0 where
  pub state : ParserState
  pub word : List ℕ
  pub ident : List ℕ
  pub values : List (List ℕ)
  pub properties : List Property
  pub tree : GameTree
  pub outer : List GameTree
  pub nodes : ℕ

-- just after the "(" of the first tree
abbrev pub at_start : Parser
at_start = record { state = AfterOpen; word = []; ident = []; values = []; properties = []; tree = bare_tree; outer = []; nodes = 0 }

abbrev pub moved : ParserState → Parser → Parser
moved state o = record { state = state; word = o.word; ident = o.ident; values = o.values; properties = o.properties; tree = o.tree; outer = o.outer; nodes = o.nodes }

abbrev pub with_byte : ℕ → Parser → Parser
with_byte c o = record { state = o.state; word = o.word ++ c ∷ []; ident = o.ident; values = o.values; properties = o.properties; tree = o.tree; outer = o.outer; nodes = o.nodes }

abbrev pub ident_ended : Parser → Parser
ident_ended o = record { state = o.state; word = []; ident = o.word; values = o.values; properties = o.properties; tree = o.tree; outer = o.outer; nodes = o.nodes }

abbrev pub value_ended : Parser → Parser
value_ended o = record { state = o.state; word = []; ident = o.ident; values = o.values ++ o.word ∷ []; properties = o.properties; tree = o.tree; outer = o.outer; nodes = o.nodes }

abbrev pub property_ended : Parser → Parser
property_ended o = record { state = o.state; word = o.word; ident = []; values = []; properties = added o.properties o.ident o.values; tree = o.tree; outer = o.outer; nodes = o.nodes }

-- what a byte that leads on does
abbrev pub led : ParserState → Sign → ℕ → Parser → Parser
led AfterSemicolon Upper c o = with_byte c o
led AfterValue Upper c o = with_byte c (property_ended o)
led AfterValue Lower c o = property_ended o
led (InIdent has) Upper c o = with_byte c o
led (InIdent has) Lower c o = o
led (InIdent has) s c o = ident_ended o
led InValue CloseSquare c o = value_ended o
led InValue s c o = with_byte c o
led AfterBackslash s c o = with_byte c o
led state s c o = o

abbrev pub node_pushed : Parser → Parser
node_pushed o = record { state = o.state; word = o.word; ident = o.ident; values = o.values; properties = []; tree = with_node o.tree o.properties; outer = o.outer; nodes = o.nodes }

-- the open node has ended, if one is open in the state
abbrev pub node_ended : ParserState → Parser → Parser
node_ended AfterSemicolon o = node_pushed o
node_ended AfterValue o = node_pushed (property_ended o)
node_ended state o = o

-- where a tree can end
abbrev pub can_close : ParserState → Bool
can_close AfterSemicolon = true
can_close AfterValue = true
can_close AfterChild = true
can_close state = false

abbrev pub begun_in : Parser → Parser
begun_in o = record { state = AfterSemicolon; word = o.word; ident = o.ident; values = o.values; properties = o.properties; tree = o.tree; outer = o.outer; nodes = o.nodes + 1 }

abbrev pub opened_in : Parser → Parser
opened_in o = record { state = AfterOpen; word = o.word; ident = o.ident; values = o.values; properties = o.properties; tree = bare_tree; outer = o.tree ∷ o.outer; nodes = o.nodes }

abbrev pub closed_in : Parser → GameTree → List GameTree → Parser
closed_in o around others =
    record { state = AfterChild; word = o.word; ident = o.ident; values = o.values; properties = o.properties; tree = with_child around o.tree; outer = others; nodes = o.nodes }

-- the innermost tree has ended: it goes to the tree round it, or is the first
abbrev pub ClosesTo : Parser → Option GameTree → Parser → Type 0
ClosesTo o None n = (around : GameTree) × (others : List GameTree) × (o.outer ≡ around ∷ others) × (n ≡ closed_in (node_ended o.state o) around others)
ClosesTo o (Some tree) n = (o.outer ≡ []) × (tree ≡ (node_ended o.state o).tree)

-- what comes of a byte: no more than a changed state, the first tree as a whole, or a fault
abbrev pub Steps : Transition → Sign → ℕ → ℕ → Parser → Result (Option GameTree) SgfFault → Parser → Type 0
Steps m s c at o (Err Memory) n = Unit {0}
Steps Opens s c at o (Ok None) n = IsTrue (nat_lt (length o.outer + 1) depth_limit) × (n ≡ opened_in (node_ended o.state o))
Steps Opens s c at o (Err TooDeep) n = nat_lt (length o.outer + 1) depth_limit ≡ false
Steps Begins s c at o (Ok None) n = IsTrue (nat_lt o.nodes node_limit) × (n ≡ begun_in (node_ended o.state o))
Steps Begins s c at o (Err TooMany) n = nat_lt o.nodes node_limit ≡ false
Steps Closes s c at o (Ok tree) n = ClosesTo o tree n
Steps (To next) s c at o (Ok None) n = n ≡ moved next (led o.state s c o)
Steps Refused s c at o (Err (Syntax state)) n = state ≡ at
Steps m s c at o r n = ⊥

-- what the parts of an open tree keep, state by state
abbrev pub IsSoundWord : ParserState → List ℕ → Type 0
IsSoundWord (InIdent has) word = IsTrue (list_all is_upper word) × (has ≡ true → word ≢ [])
IsSoundWord InValue word = (rest : List ℕ) → is_value_after false (word ++ rest) ≡ is_value_after false rest
IsSoundWord AfterBackslash word = (rest : List ℕ) → is_value_after false (word ++ rest) ≡ is_value_after true rest
IsSoundWord state word = word ≡ []

abbrev pub IsSoundProperty : ParserState → List ℕ → List (List ℕ) → Type 0
IsSoundProperty AfterIdent ident values = IsTrue (is_ident ident) × (values ≡ [])
IsSoundProperty InValue ident values = IsTrue (is_ident ident) × IsTrue (list_all is_value values)
IsSoundProperty AfterBackslash ident values = IsTrue (is_ident ident) × IsTrue (list_all is_value values)
IsSoundProperty AfterValue ident values = IsTrue (is_ident ident) × IsTrue (list_all is_value values) × (values ≢ [])
IsSoundProperty state ident values = values ≡ []

abbrev pub IsSoundNode : ParserState → List Property → Type 0
IsSoundNode AfterOpen properties = properties ≡ []
IsSoundNode AfterChild properties = properties ≡ []
IsSoundNode state properties = IsTrue (is_node properties)

abbrev pub IsSoundTree : ParserState → GameTree → Type 0
IsSoundTree AfterOpen tree = tree ≡ bare_tree
IsSoundTree AfterChild tree = IsTrue (is_tree tree)
IsSoundTree state tree = IsTrue (list_all is_node tree.nodes) × IsTrue (is_forest tree.children)

pub record IsSound (o : Parser) : Type 0 where
  pub word : IsSoundWord o.state o.word
  pub property : IsSoundProperty o.state o.ident o.values
  pub properties : IsSoundNode o.state o.properties
  pub tree : IsSoundTree o.state o.tree
  pub outer : IsTrue (list_all is_tree o.outer)
