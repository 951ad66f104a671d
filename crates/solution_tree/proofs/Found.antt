-- The faults of nodes, put together.
use Rattle.solution_tree.proofs.Common.{◌≡◌, ℕ, ◌+◌, Bool, true, false, not, ◌||◌, List, [], ◌∷◌, ◌++◌, length, Option, Some, None, Result, ap, ◌∙◌, refl, subst, arith, rules, option_or, nat_tests, Colour, same_colour, Ply, holds_ply, GameState, next, Node, GameTree, Forest, tree_then, forest_of, Nodes, no_node, node_then, sequence, nodes_of, count_nodes, carried, Why, Fault, ask, at_or, reply_twice, turn_fault, after_turn, with_turn, is_new, rest_fault, faults_below, faults_of, follows, IsFound}
use Rattle.std.proofs.Common.{◌⊎◌}
use Rattle.solution_tree.specs.declared.fault.AuditWhy.{AuditWhy}
use Rattle.solution_tree.specs.declared.fault.AuditFault.{AuditFault}
use Rattle.solution_tree.specs.Faults.{IsFault}
use Rattle.solution_tree.specs.Questions.{IsWhy}

pub fault_same : (n m : ℕ) (r q : Result Colour Fault) (e : AuditFault) → n ≡ m → r ≡ q → IsFault n r e → IsFault m q e
fault_same n m r q e size same h = subst (λ k. IsFault k q e) size (subst (λ z. IsFault n z e) same h)

-- the fault of a node, where it is the first
pub found_here : (n : ℕ) (o : Option Why) (w : AuditWhy) (k : ℕ) (later : Option Fault) → IsWhy n o w → IsFound n (at_or k o later) (record { node = k; why = w })
found_here n o w k later h = search rules

-- nothing is new where nothing came earlier
new_first : (x : Colour) (s : GameState) (m : Option (Colour × Ply)) → is_new x s [] m ≡ true
new_first x s m = search rules

or_nothing : (o : Option Fault) → option_or o None ≡ o
or_nothing o = search rules

-- a node of a sequence that is asked for what follows it, and then as a turn
module _ (x : Colour) (s : GameState) (k : ℕ) (node : Node) (below : Nodes) where
  abbrev after_it : Option (Colour × Ply) → Option Fault
  after_it m = at_or (k + 1) (ask (is_new x s [] m) reply_twice None) (at_or (k + 1) (rest_fault x (after_turn s m) below)
      (option_or (faults_below x (after_turn s m) [] (k + 1 + 1) below) (faults_below x s (with_turn [] m) (k + 1 + 1 + count_nodes below) no_node)))

  pub asked_rest : rest_fault x s (node_then node below no_node) ≡ None → faults_of x s k (node_then node below no_node) ≡ at_or (k + 1) (turn_fault s (carried s.game.size node)) (after_it (carried s.game.size node))
  asked_rest e = ap (λ o. at_or k o (faults_below x s [] (k + 1) (node_then node below no_node))) e

  pub went_on : (t : Ply) → rest_fault x s (node_then node below no_node) ≡ None → turn_fault s (carried s.game.size node) ≡ None → carried s.game.size node ≡ Some (s.mover, t)
      → faults_of x s k (node_then node below no_node) ≡ faults_of x (next s t) (k + 1) below
  went_on t h g e = grind (arith, nat_tests, asked_rest, new_first, or_nothing)

-- ---- a child tree

pub new_turn : (own had : Bool) → (own ≡ true) ⊎ (had ≡ false) → (own || not had) ≡ true
new_turn own had h = search rules

-- a fault of the node comes before those of two parts as before those of the first
at_or_first : (k : ℕ) (o : Option Why) (one other : Option Fault) → at_or k o (option_or one other) ≡ option_or (at_or k o one) other
at_or_first k (Some why) one other = refl
at_or_first k None one other = refl

-- a later fault stays hidden after an earlier one
pub found_first : (n : ℕ) (o later : Option Fault) (e : AuditFault) → IsFound n o e → IsFound n (option_or o later) e
found_first n o later e h = search rules

-- the child with its node, what is below that, and the later children
pub opened_child : (child : GameTree) (nodes : List Node) (node : Node) (rest : List Node) (trees : List GameTree) (others : Forest) → nodes ≡ child.nodes → nodes ≡ node ∷ rest → forest_of trees ≡ child.children
    → nodes_of (tree_then child.nodes child.children others) ≡ node_then node (follows rest trees) (nodes_of others)
opened_child child nodes node rest trees others h g e = search rules

module _ (x : Colour) (s : GameState) (earlier : List Ply) (k : ℕ) (node : Node) (below others : Nodes) where
  abbrev later_on : Option (Colour × Ply) → Option Fault
  later_on m = at_or k (rest_fault x (after_turn s m) below) (option_or (faults_below x (after_turn s m) [] (k + 1) below) (faults_below x s (with_turn earlier m) (k + 1 + count_nodes below) others))

  abbrev pub as_child : Option Fault
  as_child = faults_below x s earlier k (node_then node below others)

  went_down : (t : Ply) → turn_fault s (carried s.game.size node) ≡ None → carried s.game.size node ≡ Some (s.mover, t)
      → as_child ≡ at_or k (ask (same_colour s.mover x || not (holds_ply earlier t)) reply_twice None) (later_on (Some (s.mover, t)))
  went_down t h g = search rules

  pub child_new : (t : Ply) → turn_fault s (carried s.game.size node) ≡ None → carried s.game.size node ≡ Some (s.mover, t) → (same_colour s.mover x || not (holds_ply earlier t)) ≡ true
      → as_child ≡ option_or (faults_of x (next s t) k below) (faults_below x s (earlier ++ t ∷ []) (k + 1 + count_nodes below) others)
  child_new t h g e =
      went_down t h g
      ∙ ap (λ b. at_or k (ask b reply_twice None) (later_on (Some (s.mover, t)))) e
      ∙ at_or_first k (rest_fault x (next s t) below) (faults_below x (next s t) [] (k + 1) below) (faults_below x s (earlier ++ t ∷ []) (k + 1 + count_nodes below) others)

-- how many nodes a sequence has with what is below it
pub sequence_count : (nodes : List Node) (below : Nodes) → count_nodes (sequence nodes below) ≡ length nodes + count_nodes below
sequence_count [] below = let none : count_nodes below ≡ 0 + count_nodes below = omega arith in none
sequence_count (node ∷ nodes) below = let more : count_nodes (sequence nodes below) ≡ length nodes + count_nodes below = sequence_count nodes below in omega (arith, more)
