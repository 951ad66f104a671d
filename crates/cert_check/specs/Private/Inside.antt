-- The open nodes of a body, as the program keeps them: for each turn that was made, the turns that are still to come after it.
--     owed_by      what they say about the states before the turns
--     TakesNode b l old opened new left r      a call that returned r took the line of a node
--     Follows      there are as many as the turns that were made, and nobody had won before any of those turns, in the same game
use Rattle.std.specs.Prelude.{◌≡◌, ℕ, suc, ◌<◌, List, [], ◌∷◌, length, reverse, Option, Some, None, Result, Ok, Err, IsTrue}
use Rattle.go_points.specs.Ply.{ply_of}
use Rattle.target_game.specs.State.{Game, GameState}
use Rattle.target_game.specs.State as State
use Rattle.target_game.specs.Left.{turns_due}
use Rattle.target_game.specs.Legal.{legal}
use Rattle.target_game.specs.Over.{over}
use Rattle.target_game.specs.declared.turns_left.TurnsLeft.{TurnsLeft}
use Rattle.target_game.specs.Next.{next}
use Rattle.proof_cert.specs.Claim.{Head}
use Rattle.proof_cert.specs.Lines.{Line, won_line, use_line, play_line, all_line}
use Rattle.cert_check.specs.declared.open_nodes.Due.{Due}
use Rattle.cert_check.specs.declared.open_nodes.Due.TheVariants.{Node, Reply, End}
use Rattle.cert_check.specs.Body.{Body, Why, malformed, won_fault, use_fault, play_fault, all_fault, due_replies}
use Rattle.cert_check.specs.declared.reject.Why as stop
use Rattle.cert_check.specs.Stage.{why_value}
use Rattle.cert_check.specs.Parts.{IsJudged}
use Rattle.cert_check.specs.Verdict.{Owed, owing, Heading, Phase, node_due, reply_due}

-- both lists latest first
abbrev pub owed_by : List GameState → List TurnsLeft → List Owed
owed_by before [] = []
owed_by [] (n ∷ ns) = []
owed_by (s ∷ before) (n ∷ ns) = owing (suc (length before)) s (turns_due s n.next) (owed_by before ns)

abbrev pub Follows : Game → List GameState → List TurnsLeft → Type 0
Follows g [] [] = Unit {0}
Follows g [] (n ∷ ns) = ⊥
Follows g (s ∷ before) [] = ⊥
Follows g (s ∷ before) (n ∷ ns) = (over s ≡ None) × (s.game ≡ g) × Follows g before ns

-- one turn more may be made
abbrev pub HasRoom : State.Line → List TurnsLeft → Type 0
HasRoom l opened = Follows l.state.game l.before (reverse opened) × (length opened < 2000)

-- THE LINE THAT IS DUE

-- in a body: a node at a depth and a state, or a reply (or `end`), with the nodes that are open round it
pub data Inside : Type 0 where
  node_at : (depth : ℕ) → GameState → List Owed → Inside
  reply_at : List Owed → Inside

abbrev pub phase_of : Heading → Option Head → Inside → Phase
phase_of f inside (node_at depth s os) = node_due f inside depth s os
phase_of f inside (reply_at os) = reply_due f inside os

abbrev pub inside_of : Due → GameState → List GameState → List TurnsLeft → Inside
inside_of Node s before ns = node_at (suc (length before)) s (owed_by before ns)
inside_of (Reply due left) s before ns = reply_at (record { depth = suc (length before); state = s; due = ply_of s.game.size due; others = turns_due s left.next } ∷ owed_by before ns)
inside_of End s before ns = reply_at []

-- a reply that is due may be made: nobody has won, it is legal, and there is room for it
abbrev pub MayBeMade : Due → GameState → ℕ → Type 0
MayBeMade (Reply due left) s n = (over s ≡ None) × IsTrue (legal s (ply_of s.game.size due)) × (n < 2000)
MayBeMade _ s n = Unit {0}

-- the checks on a node's line, and what is due after it
abbrev pub node_fault : Body → GameState → Line → Option Why
node_fault b s won_line = won_fault b s
node_fault b s (use_line j) = use_fault b s j
node_fault b s (play_line t) = play_fault b s t
node_fault b s (all_line k) = all_fault b s k
node_fault b s _ = Some malformed

abbrev pub node_next : ℕ → GameState → List Owed → Line → Inside
node_next depth s os (play_line t) = node_at (suc depth) (next s t) os
node_next depth s os (all_line k) = reply_at (owing depth s (due_replies s) os)
node_next depth s os _ = reply_at os

-- A call took the line of a node at a state: the node has no fault, and this line is due after it, or the fault is the node's.
pub record NodeTaken (b : Body) (l : Line) (old : State.Line) (opened : List TurnsLeft) (new : State.Line) (left : List TurnsLeft) (due : Due) : Type 0 where
  pub game : new.state.game ≡ old.state.game
  pub follows : Follows old.state.game new.before (reverse left)
  pub made : MayBeMade due new.state (length left)
  pub none : node_fault b old.state l ≡ None
  pub behind : inside_of due new.state new.before (reverse left) ≡ node_next (suc (length old.before)) old.state (owed_by old.before (reverse opened)) l

abbrev pub TakesNode : Body → Line → State.Line → List TurnsLeft → State.Line → List TurnsLeft → Result Due stop.Why → Type 0
TakesNode b l old opened new left (Ok due) = NodeTaken b l old opened new left due
TakesNode b l old opened new left (Err why) = ((p : Why) → why_value old.state.game.size why ≡ Some p → node_fault b old.state l ≡ Some p) × IsJudged why
