-- What death by answers implies. Each is proved; the calls of the module `laws` name them.
use Rattle.std.specs.Prelude.{◌≡◌, ℕ, ◌+◌, ◌*◌, ◌≤◌, ◌<◌, ◌⊎◌, IsTrue, IsFalse, List, [], count_by}
use Rattle.go_points.specs.declared.Cell.{Cell}
use Rattle.go_points.specs.Grid.{opponent_of, points}
use Rattle.go_points.specs.Liberty.{all_reach_empty}
use Rattle.target_game.specs.State.{GameState}
use Rattle.target_game.specs.Legal.{holds_point}
use Rattle.target_game.specs.Wins.{wins}
use Rattle.target_game.specs.Status.{IsDead}
use Rattle.safe_groups.specs.Areas.{Area, Points, States, IsWalled, Fits}
use Rattle.safe_groups.specs.Together.{Areas, in_one, RepliesTogether, HoldsAt, AreListed, IsKept}
use Rattle.dead_groups.specs.Kills.{killing, Entries, IsEntry, IsLost, PastAllowsMove, PastAllowsReply}
use Rattle.dead_groups.specs.While.{are_free, wins_while}

-- What the killer, who is the attacker, plays by: areas that the board fits, the region, which shares no point with theirs, and the
-- entries. Each kept stone of the region stands by the areas, or is one of those that are only supposed to. All moves are in the
-- game's region, and each stone on the board has a liberty.
pub record KillsBy (s : GameState) (supposed : List ℕ) : Type 0 where
  pub areas : Areas
  pub states : ℕ → States
  pub state : ℕ → List Cell
  pub kept : Points
  pub region : Points
  pub entries : Entries
  pub sound : IsTrue (all_reach_empty s.game.size s.colouring)
  pub answers_allowed : (i p : ℕ) → i < areas.count → IsTrue (areas.answers i p) → IsTrue (holds_point s.game.region p)
  pub moves_allowed : (j : ℕ) → j < entries.count → IsTrue (holds_point s.game.region (entries.move j))
  pub replies : RepliesTogether s.game.size (opponent_of s.game.defender) areas states
  pub listed : AreListed areas states state
  pub holds : HoldsAt s.game.size (opponent_of s.game.defender) areas state s.colouring s.history
  pub stands : (p : ℕ) → IsTrue (kept p) → IsKept (opponent_of s.game.defender) areas state p ⊎ IsTrue (holds_point supposed p)
  pub apart : (i p : ℕ) → i < areas.count → IsTrue (region p) → IsFalse (areas.region i p)
  pub each : (j : ℕ) → j < entries.count → IsEntry (killing s.game.size (opponent_of s.game.defender) kept region) (holds_point s.game.targets) entries j

-- the region, as an area
abbrev pub area_of : (s : GameState) (supposed : List ℕ) → KillsBy s supposed → Area
area_of s supposed by = killing s.game.size (opponent_of s.game.defender) by.kept by.region

-- The attacker makes no more moves than there are entries, and points at which the areas answer.
abbrev pub moves_of : (s : GameState) (supposed : List ℕ) → KillsBy s supposed → ℕ
moves_of s supposed by = by.entries.count + count_by (in_one by.areas.count by.areas.answers) (points s.game.size)

-- Dead if the killer is to move: the board fits an entry.
pub record IsDeadByMove (s : GameState) (supposed : List ℕ) : Type 0 where
  pub by : KillsBy s supposed
  pub entry : ℕ
  pub within : entry < by.entries.count
  pub fits : Fits (area_of s supposed by) s.colouring (by.entries.state entry)
  pub past : PastAllowsMove (area_of s supposed by) by.entries s.colouring s.history

-- Dead though the other side is to move: the board fits a state in which that is lost.
pub record IsDeadByAnswers (s : GameState) (supposed : List ℕ) : Type 0 where
  pub by : KillsBy s supposed
  pub begin : List Cell
  pub walled : IsWalled (area_of s supposed by) begin
  pub fits : Fits (area_of s supposed by) s.colouring begin
  pub lost : IsLost (area_of s supposed by) (holds_point s.game.targets) by.entries by.entries.count begin
  pub past : PastAllowsReply (area_of s supposed by) by.entries s.colouring s.history

-- The attacker, to move, wins within twice as many turns, unless two passes have just been made.
abbrev pub AttackerWinsByMove : Type 0
AttackerWinsByMove = (s : GameState) (dead : IsDeadByMove s []) → s.mover ≡ opponent_of s.game.defender → s.passes ≤ 1 → IsTrue (wins (opponent_of s.game.defender) s (2 * moves_of s [] dead.by))

-- Where the defender is to move, and no pass has just been made, it wins within one turn more.
abbrev pub AttackerWins : Type 0
AttackerWins = (s : GameState) (dead : IsDeadByAnswers s []) → s.mover ≡ s.game.defender → s.passes ≡ 0 → IsTrue (wins (opponent_of s.game.defender) s (2 * moves_of s [] dead.by + 1))

-- So the group is dead.
abbrev pub AnsweredIsDead : Type 0
AnsweredIsDead = (s : GameState) → s.passes ≡ 0 → IsDeadByAnswers s [] → IsDead s

-- Where stones are only supposed to stand, it wins as long as each of them is there, with a liberty outside the region.
abbrev pub AttackerWinsByMoveWhile : Type 0
AttackerWinsByMoveWhile = (s : GameState) (stones : List ℕ) (dead : IsDeadByMove s stones) → s.mover ≡ opponent_of s.game.defender → s.passes ≤ 1
    → IsTrue (wins_while (are_free (area_of s stones dead.by) stones) (opponent_of s.game.defender) s (2 * moves_of s stones dead.by))

abbrev pub AttackerWinsWhile : Type 0
AttackerWinsWhile = (s : GameState) (stones : List ℕ) (dead : IsDeadByAnswers s stones) → s.mover ≡ s.game.defender → s.passes ≡ 0
    → IsTrue (wins_while (are_free (area_of s stones dead.by) stones) (opponent_of s.game.defender) s (2 * moves_of s stones dead.by + 1))
