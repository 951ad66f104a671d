-- What safety by answers implies. Each is proved; the calls of the module `laws` name them.
use Rattle.std.specs.Prelude.{◌≡◌, ℕ, ◌≤◌, ◌<◌, IsTrue, IsFalse, List}
use Rattle.go_points.specs.declared.Cell.{Cell}
use Rattle.go_points.specs.declared.Colour.{Colour}
use Rattle.go_points.specs.Grid.{opponent_of}
use Rattle.target_game.specs.State.{GameState}
use Rattle.go_points.specs.Ply.{move}
use Rattle.target_game.specs.Legal.{holds_point, legal}
use Rattle.target_game.specs.Next.{next}
use Rattle.target_game.specs.Over.{targets_stand}
use Rattle.target_game.specs.Wins.{wins, Wins}
use Rattle.target_game.specs.Status.{IsAlive}
use Rattle.safe_groups.specs.Areas.{Points, States}
use Rattle.safe_groups.specs.Together.{Areas, in_one, RepliesTogether, HoldsAt, AreListed, IsKept}
use Rattle.safe_groups.specs.Play.{StandThrough}

-- Stones that the keeper has in the states that the board fits stand through any number of exchanges: no play of the other side takes
-- them, anywhere on the board and whatever has occurred, and no answer is barred.
abbrev pub SafeStonesStand : Type 0
SafeStonesStand = (n : ℕ) (k : Colour) (A : Areas) (W : ℕ → States) (c : ℕ → List Cell) (b : List Cell) (history : List (List Cell)) → RepliesTogether n k A W → AreListed A W c
    → HoldsAt n k A c b history → (stones : Points) → ((p : ℕ) → IsTrue (stones p) → IsKept k A c p) → (exchanges : ℕ) → StandThrough n k (in_one A.count A.region) stones exchanges b history

-- The targets are safe by answers, whoever is to move: they are the keeper's in states of areas that the board fits, and each of his
-- answers is in the game's region.
pub record IsSafe (s : GameState) : Type 0 where
  pub areas : Areas
  pub states : ℕ → States
  pub state : ℕ → List Cell
  pub allowed : (i p : ℕ) → i < areas.count → IsTrue (areas.answers i p) → IsTrue (holds_point s.game.region p)
  pub replies : RepliesTogether s.game.size s.game.defender areas states
  pub listed : AreListed areas states state
  pub holds : HoldsAt s.game.size s.game.defender areas state s.colouring s.history
  pub targets : (p : ℕ) → IsTrue (holds_point s.game.targets p) → IsKept s.game.defender areas state p

-- The targets stand, and the defender, who is to move, may play at p: after that they are safe.
pub record IsSafeAfter (p : ℕ) (s : GameState) : Type 0 where
  pub stand : IsTrue (targets_stand s)
  pub to_move : s.mover ≡ s.game.defender
  pub legal_move : IsTrue (legal s (move p))
  pub safe : IsSafe (next s (move p))

-- The attacker wins no state whose targets are safe by answers: whoever is to move, whatever passes stand, within any number of turns.
abbrev pub AttackerNeverWins : Type 0
AttackerNeverWins = (s : GameState) (k : ℕ) → IsSafe s → IsFalse (wins (opponent_of s.game.defender) s k)

abbrev pub AttackerNeverWinsAfterMove : Type 0
AttackerNeverWinsAfterMove = (s : GameState) (k p : ℕ) → IsSafeAfter p s → IsFalse (wins (opponent_of s.game.defender) s k)

-- So the defender wins it.
abbrev pub DefenderWins : Type 0
DefenderWins = (s : GameState) → s.passes ≤ 2 → IsSafe s → Wins s.game.defender s

abbrev pub DefenderWinsByMove : Type 0
DefenderWinsByMove = (s : GameState) (p : ℕ) → s.passes ≤ 2 → IsSafeAfter p s → Wins s.game.defender s

-- So the group is alive.
abbrev pub SafeIsAlive : Type 0
SafeIsAlive = (s : GameState) → s.passes ≡ 0 → IsSafe s → IsAlive s
