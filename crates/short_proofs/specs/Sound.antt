-- What is so of a record for readers that names x as the winner (this project's own).
--     says_lives k node      a comment of the node begins with the words that this side lives
--     says_again node      or that play goes on as below another node
--     IsAnswered x s again children      what follows a node that is in the state s: as in an answer tree of x; or nothing, where x is the
--         defender and its targets live by their shape, or where the reader is sent elsewhere
--     IsSound x s node below      the node's turn is legal in the state s; where it says that the defender lives, the targets live by their
--         shape after it; and what follows it is answered
--     AreSound x s nodes      so is each of the nodes, in the state that the turns above it lead to
--     IsReading x s tree      so are all nodes of the record below its problem, which is in the state s
use Rattle.std.specs.Prelude.{◌≡◌, ◌⊎◌, ◌++◌, Bool, false, IsTrue, List, codes, eqb, ℕ, None}
use Rattle.std.specs.List.{list_any, starts_with}
use Rattle.go_points.specs.declared.Colour.{Colour}
use Rattle.target_game.specs.State.{GameState}
use Rattle.sgf_text.specs.Trees.{GameTree, Node}
use Rattle.sgf_text.specs.Nodes.{values_at}
use Rattle.pass_alive.specs.Told.{LivesAt}
use Rattle.solution_tree.specs.Audit.{turn_fault, rest_fault, after_turn}
use Rattle.solution_tree.specs.Below.{Nodes, no_node, node_then, nodes_below, carried}
use Rattle.tool_parts.specs.Says.{colour_text}

abbrev pub says : List ℕ → Node → Bool
says words node = list_any (λ value. starts_with eqb value words) (values_at (codes "C") node)

abbrev pub lives_text : Colour → List ℕ
lives_text k = colour_text k ++ codes " lives"

abbrev pub says_lives : Colour → Node → Bool
says_lives k node = says (lives_text k) node

abbrev pub says_again : Node → Bool
says_again node = says (codes "As ") node

abbrev pub IsAnswered : Colour → GameState → Bool → Nodes → Type 0
IsAnswered x s again children = (rest_fault x s children ≡ None)
    ⊎ ((children ≡ no_node) × (((x ≡ s.game.defender) × LivesAt s.game s.colouring) ⊎ IsTrue again))

-- the state after the turn that the node carries
abbrev pub state_after : GameState → Node → GameState
state_after s node = after_turn s (carried s.game.size node)

pub record IsSound (x : Colour) (s : GameState) (node : Node) (below : Nodes) : Type 0 where
  pub legal : turn_fault s (carried s.game.size node) ≡ None
  pub lives : IsTrue (says_lives s.game.defender node) → LivesAt s.game (state_after s node).colouring
  pub answered : IsAnswered x (state_after s node) (says_again node) below

abbrev pub AreSound : Colour → GameState → Nodes → Type 0
AreSound x s no_node = Unit {0}
AreSound x s (node_then node below others) = IsSound x s node below × AreSound x (state_after s node) below × AreSound x s others

abbrev pub IsReading : Colour → GameState → GameTree → Type 0
IsReading x s tree = IsAnswered x s false (nodes_below tree) × AreSound x s (nodes_below tree)
