-- What is asked of a node, and of what follows it along a sequence and the child trees after it.
--     follows nodes trees      what is below a node that is followed by these nodes of its sequence and these child trees
--     IsWhy n o w      the program's reason is the one that is due; if memory was refused, nothing is said
--     back k l      a line of play with k turns taken back
--     Leads k first l      k turns lead from the first line of play to the other
use Rattle.std.specs.Prelude.{◌≡◌, ◌≤◌, ℕ, zero, suc, List, [], ◌∷◌, length, Option, Some, None}
use Rattle.target_game.specs.State.{Line}
use Rattle.sgf_text.specs.Trees.{Node, GameTree, forest_of}
use Rattle.solution_tree.specs.declared.fault.AuditWhy.{AuditWhy}
use Rattle.solution_tree.specs.Below.{Nodes, sequence, nodes_of}
use Rattle.solution_tree.specs.Audit.{Why}
use Rattle.solution_tree.specs.Faults.{why_value}

abbrev pub follows : List Node → List GameTree → Nodes
follows nodes trees = sequence nodes (nodes_of (forest_of trees))

abbrev pub IsWhyOf : Option Why → Option Why → Type 0
IsWhyOf o None = Unit {0}
IsWhyOf o (Some why) = o ≡ Some why

abbrev pub IsWhy : ℕ → Option Why → AuditWhy → Type 0
IsWhy n o w = IsWhyOf o (why_value n w)

abbrev pub one_back : Line → Line
one_back l = elim l.before [ [] ↦ l | s ∷ ss ↦ record { state = s; before = ss } ]

abbrev pub back : ℕ → Line → Line
back zero l = l
back (suc k) l = back k (one_back l)

abbrev pub Leads : ℕ → Line → Line → Type 0
Leads k first l = (k ≤ length l.before) × (back k l ≡ first)
