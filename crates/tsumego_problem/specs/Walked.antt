-- The walk as the program makes it. These definitions are for private calls, except `IsRefusal`.
--     IsRefusal due fault      the refusal is the one that is due; if memory was refused, nothing is said
--     walk_of r k      the point of the walk at which a record is, with the colour k to move
--     WalksTo due n new r      what a call that returned r did, if the walk comes to `due`
--     walk_to_mark      the walk up to the first marked node, and that node
--     IsHistory n h, HasReached      what the walk keeps of its history, and what it has asked at the marked node
use Rattle.std.specs.Prelude.{◌≡◌, ◌≢◌, ℕ, ◌+◌, ◌*◌, ◌<◌, true, false, nat_eq, List, [], ◌∷◌, length, Option, None, Result, Ok, Err, if◌then◌else◌}
use Rattle.std.specs.List.{list_all}
use Rattle.go_points.specs.declared.Cell.{Cell}
use Rattle.go_points.specs.Liberty.{all_reach_empty}
use Rattle.go_points.specs.Ply.{Ply, pass, move}
use Rattle.go_turns.specs.History.{repeats}
use Rattle.go_turns.specs.declared.fault.TurnFault.{TurnFault}
use Rattle.go_turns.specs.declared.fault.TurnFault.TheVariants as turns
use Rattle.go_points.specs.declared.Colour.{Colour}
use Rattle.go_turns.specs.Record.{GameRecord, colouring_of}
use Rattle.sgf_text.specs.Trees.{Node}
use Rattle.tsumego_problem.specs.declared.fault.ProblemFault.{ProblemFault}
use Rattle.tsumego_problem.specs.declared.fault.ProblemFault.TheVariants as faults
use Rattle.tsumego_problem.specs.Walk.{Walk, is_marked, node_fault, late_fault, walk_node, ◌>>=◌}

abbrev pub IsRefusal : {A : Type 0} → Result A ProblemFault → ProblemFault → Type 0
IsRefusal due fault = fault ≢ faults.Memory → due ≡ Err fault

abbrev pub walk_of : GameRecord → Colour → Walk
walk_of r mover = record { history = r.present.history; present = colouring_of r.present; mover = mover; passes = r.present.passes }

-- The new record is at the point that is due, with the mover that was returned, on a board of n rows; or the refusal is the one
-- that is due.
abbrev pub WalksTo : Result Walk ProblemFault → ℕ → GameRecord → Result Colour ProblemFault → Type 0
WalksTo due n new (Ok mover) = (due ≡ Ok (walk_of new mover)) × (new.size ≡ n)
WalksTo due n new (Err fault) = IsRefusal due fault

-- the node with the number k stands first
abbrev pub walk_to_mark : Option ℕ → ℕ → ℕ → List Node → Walk → Result (Node × Walk) ProblemFault
walk_to_mark limit n k [] w = Err faults.NoProblemNode
walk_to_mark limit n k (node ∷ nodes) w = walk_node limit n k node w >>= (λ v. if is_marked node then Ok (node, v) else walk_to_mark limit n (k + 1) nodes v)

-- colourings of a board of n rows, each once, in which every stone reaches empty
pub record IsHistory (n : ℕ) (history : List (List Cell)) : Type 0 where
  pub full : list_all (λ c. nat_eq (length c) (n * n)) history ≡ true
  pub once : repeats history ≡ false
  pub free : list_all (all_reach_empty n) history ≡ true

-- The walk has come to a marked node, which has no fault.
pub record HasReached (limit : Option ℕ) (n : ℕ) (node : Node) (w : Walk) : Type 0 where
  pub number : ℕ
  pub history : IsHistory n w.history
  pub marked : is_marked node ≡ true
  pub fine : node_fault n number node ≡ None
  pub late : late_fault limit n number node w ≡ None

-- a move at a point of the board, or a pass
abbrev pub StandsOn : ℕ → Ply → Type 0
StandsOn n pass = Unit {0}
StandsOn n (move p) = p < n * n

-- the faults that a setup on the board may have
abbrev pub IsNoLiberty : TurnFault → Type 0
IsNoLiberty (turns.NoLiberty point) = Unit {0}
IsNoLiberty _ = ⊥

abbrev pub IsSetupFault : TurnFault → Type 0
IsSetupFault turns.Memory = Unit {0}
IsSetupFault fault = IsNoLiberty fault
