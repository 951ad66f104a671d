-- What full search answers.
--     Shows x s k n      x wins s within k turns, and the tree n, which is no larger than the tree of all play, shows it
--     NoneWithin s steps      no side can force a win in a tree that is so small that these steps are enough
--     IsFirst x s n      the tree n shows that x wins s, within the fewest turns
--     IsDecided s steps f      what full search of a problem's start answers
use Rattle.std.specs.Prelude.{◌≡◌, ℕ, ◌+◌, ◌*◌, ◌<◌, ◌≤◌, true, false, [], Option, Some, None, IsTrue}
use Rattle.go_points.specs.declared.Colour.{Colour}
use Rattle.target_game.specs.State.{GameState}
use Rattle.target_game.specs.Wins.{wins, nodes}
use Rattle.proof_cert.specs.Claim.{node_count, depth_of}
use Rattle.proof_cert.specs.Claim as claim
use Rattle.proof_cert.specs.Certificate.{node_of}
use Rattle.proof_cert.specs.declared.certificate.Node.{Node}
use Rattle.cert_check.specs.Body.{main_body}
use Rattle.cert_check.specs.Validity.{FitsNode}

pub record Shows (x : Colour) (s : GameState) (k : ℕ) (n : claim.Node) : Type 0 where
  pub fits : FitsNode (main_body x []) s n
  pub count : node_count n ≤ nodes s k
  pub depth : depth_of n ≤ k + 1
  pub wins : wins x s k ≡ true

-- No side can force a win within any k ≤ 200 turns for which k + 1 times the number of states of the tree of all legal play is at
-- most these steps.
abbrev pub NoneWithin : GameState → ℕ → Type 0
NoneWithin s steps = (x : Colour) (k : ℕ) → k ≤ 200 → IsTrue (wins x s k) → steps < (k + 1) * nodes s k

-- a tree of a win within k turns, if no side wins within fewer
pub record IsFirst (x : Colour) (s : GameState) (n : claim.Node) : Type 0 where
  pub turns : ℕ
  pub few : turns ≤ 200
  pub shows : Shows x s turns n
  pub before : (y : Colour) (j : ℕ) → j < turns → wins y s j ≡ false

abbrev pub IsDecided : GameState → ℕ → Option (Colour × Node) → Type 0
IsDecided s steps None = NoneWithin s steps
IsDecided s steps (Some r) = IsFirst r.0 s (node_of s.game.size r.1)
