-- What full search knows of a state and of its turns. No public clause rests on these definitions.
--     rest left room      how many states may still be met, with this many steps left and room for this many states
--     IsFound s k left f      what full search of s within k turns finds, with this many steps left
--     AreSeen s k ts seen      what is known if the turns ts were searched and the mover wins by none of them
--     IsTurnSeen s k t left old new r      what the search of one turn more, t, makes of what is known
use Rattle.std.specs.Prelude.{◌≡◌, ℕ, ◌+◌, ◌<◌, ◌≤◌, true, false, List, [], ◌∷◌, ◌++◌, sum_by, min, Option, Some, None}
use Rattle.std.specs.List.{list_any, list_all}
use Rattle.go_points.specs.declared.Colour.{Colour}
use Rattle.go_points.specs.Grid.{opponent_of}
use Rattle.go_points.specs.declared.Turn.{Turn}
use Rattle.go_points.specs.Ply.{Ply, ply_of}
use Rattle.target_game.specs.State.{GameState}
use Rattle.target_game.specs.Next.{next}
use Rattle.target_game.specs.Wins.{wins, nodes}
use Rattle.proof_cert.specs.Claim.{Branches, branch_turns, node_count_below, depth_below}
use Rattle.proof_cert.specs.Claim as claim
use Rattle.proof_cert.specs.Certificate.{node_of, replies_of}
use Rattle.proof_cert.specs.declared.certificate.Node.{Node}
use Rattle.cert_check.specs.Body.{main_body}
use Rattle.cert_check.specs.Validity.{FitsBranches}
use Rattle.full_search.specs.declared.search.Found.{Found}
use Rattle.full_search.specs.declared.search.Found.TheVariants.{Wins, Open, OutOfSteps}
use Rattle.full_search.specs.declared.search.Tried.{Tried}
use Rattle.full_search.specs.Decided.{Shows}

-- the number of states of the trees of all play of at most k turns after these turns
abbrev pub nodes_behind : GameState → ℕ → List Ply → ℕ
nodes_behind s k ts = sum_by (λ t. nodes (next s t) k) ts

-- what `Shows` says of one tree, for the trees after these turns, one for each
pub record AllShow (x : Colour) (s : GameState) (k : ℕ) (ts : List Ply) (bs : Branches) : Type 0 where
  pub turns : branch_turns bs ≡ ts
  pub fits : FitsBranches (main_body x []) s bs
  pub count : node_count_below bs ≤ nodes_behind s k ts
  pub depth : depth_below bs ≤ k + 1
  pub wins : list_all (λ t. wins x (next s t) k) ts ≡ true

abbrev pub rest : ℕ → ℕ → ℕ
rest left room = min left room

-- neither side wins within k turns
abbrev pub NeitherWins : GameState → ℕ → Type 0
NeitherWins s k = (x : Colour) → wins x s k ≡ false

abbrev pub IsFound : GameState → ℕ → ℕ → Found → Type 0
IsFound s k left (Wins x tree) = Shows x s k (node_of s.game.size tree)
IsFound s k left Open = NeitherWins s k
IsFound s k left OutOfSteps = left < nodes s k

pub record AreSeen (s : GameState) (k : ℕ) (ts : List Ply) (seen : Tried) : Type 0 where
  pub mover : list_any (λ t. wins s.mover (next s t) k) ts ≡ false
  pub some : seen.is_open ≡ true → list_all (λ t. wins (opponent_of s.mover) (next s t) k) ts ≡ false
  pub all : seen.is_open ≡ false → AllShow (opponent_of s.mover) s k ts (replies_of s.game.size seen.replies.items)

-- one more turn was searched, with this many steps left before it: it is added to those that were seen, or it decides the search of
-- the state
abbrev pub IsTurnSeen : GameState → ℕ → Ply → ℕ → Tried → Tried → Option Found → Type 0
IsTurnSeen s k t left old new None = (ts : List Ply) → AreSeen s k ts old → AreSeen s k (ts ++ t ∷ []) new
IsTurnSeen s k t left old new (Some (Wins x tree)) = Shows x s (k + 1) (node_of s.game.size tree)
IsTurnSeen s k t left old new (Some Open) = ⊥
IsTurnSeen s k t left old new (Some OutOfSteps) = left < nodes (next s t) k

-- what was found is this side's win by this turn and the tree after it
abbrev pub IsWonBy : Colour → Turn → Node → Found → Type 0
IsWonBy x t below (Wins y tree) = (y ≡ x) × ((n : ℕ) → node_of n tree ≡ claim.play (ply_of n t) (node_of n below))
IsWonBy x t below Open = ⊥
IsWonBy x t below OutOfSteps = ⊥
