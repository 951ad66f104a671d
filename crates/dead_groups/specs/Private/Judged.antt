-- What the judge of a claim of death knows of the entries that it has read.
use Rattle.std.specs.Prelude.{◌≡◌, ◌*◌, ◌<◌, ◌⊎◌, ℕ, suc, Bool, IsTrue, IsFalse, List, [], length, get_or, if◌then◌else◌}
use Rattle.std.specs.List.{All}
use Rattle.go_points.specs.declared.Cell.{Cell}
use Rattle.go_points.specs.declared.Cell.TheVariants.{Empty}
use Rattle.go_points.specs.Grid.{cell_at, opponent_of, side_of}
use Rattle.go_turns.specs.History.{has_occurred}
use Rattle.target_game.specs.State.{GameProblem, start}
use Rattle.target_game.specs.Legal.{holds_point}
use Rattle.safe_groups.specs.Areas.{Area, Points, Fits, IsWalled, after_answer}
use Rattle.safe_groups.specs.Ground.{IsState}
use Rattle.safe_groups.specs.declared.ground.Ground.{Ground}
use Rattle.dead_groups.specs.declared.entry_list.EntryList.{EntryList}
use Rattle.dead_groups.specs.Kills.{Entries, IsEntry, IsLost, IsTaken, is_unsafe, result}
use Rattle.dead_groups.specs.Ground.{entries_of, kill_area}

-- Nothing that has occurred fits the state.
abbrev pub IsNew : Area → List (List Cell) → List Cell → Type 0
IsNew a history c = (p : List Cell) → IsTrue (has_occurred history p) → Fits a p c → ⊥

-- What the killer may begin with: an entry's state where he is to move, else what it leads to.
abbrev pub shown : Area → Bool → List Cell → ℕ → List Cell
shown a first c x = (if first then c else after_answer a c x)

-- The board fits that of one of the first so many entries.
abbrev pub IsBegun : Area → List Cell → Entries → Bool → ℕ → Type 0
IsBegun a b D first m = (i : ℕ) × (i < m) × Fits a b (shown a first (D.state i) (D.move i))

-- The entries before which it would have to be, so that the past does not count for this one.
abbrev pub before : Bool → ℕ → ℕ
before first j = (if first then j else suc j)

-- An entry by its state and move, with those of lower numbers.
pub record IsEntryBy (a : Area) (targets : Points) (D : Entries) (bound : ℕ) (c : List Cell) (x : ℕ) : Type 0 where
  pub walled : IsWalled a c
  pub on_board : x < a.size * a.size
  pub empty : cell_at c x ≡ Empty
  pub stands : IsFalse (is_unsafe a (after_answer a c x) x)
  pub leads : IsTaken a targets (after_answer a c x) ⊎ IsLost a targets D bound (after_answer a c x)

abbrev pub entries_in : EntryList → Entries
entries_in l = entries_of l.states.items l.moves.items

pub record AreJudged (q : GameProblem) (g : Ground) (targets : Points) (l : EntryList) : Type 0 where
  pub lengths : length l.moves.items ≡ length l.states.items
  pub states : All (IsState g) l.states.items
  pub each : (j : ℕ) → j < length l.states.items → IsEntryBy (kill_area g) targets (entries_in l) j (get_or l.states.items j []) (get_or l.moves.items j 0)
  pub allowed : (j : ℕ) → j < length l.states.items → IsTrue (holds_point q.game.region (get_or l.moves.items j 0))
  pub past : (j : ℕ) → j < length l.states.items → IsBegun (kill_area g) (start q).colouring (entries_in l) l.moves_first (before l.moves_first j)
      ⊎ IsNew (kill_area g) q.history (after_answer (kill_area g) (get_or l.states.items j []) (get_or l.moves.items j 0))
  pub begun : IsTrue l.is_begun → IsBegun (kill_area g) (start q).colouring (entries_in l) l.moves_first (length l.states.items)

-- The past does not count for a new entry with this state and move: the board fits what one before it, or it, may begin with.
abbrev pub IsSpared : GameProblem → Ground → EntryList → List Cell → ℕ → Type 0
IsSpared q g l s x = IsBegun (kill_area g) (start q).colouring (entries_in l) l.moves_first (length l.states.items)
    ⊎ (IsFalse l.moves_first × Fits (kill_area g) (start q).colouring (after_answer (kill_area g) s x))

-- Nor for those after it.
abbrev pub MayBegin : GameProblem → Ground → EntryList → List Cell → ℕ → Type 0
MayBegin q g l s x = IsSpared q g l s x ⊎ (IsTrue l.moves_first × Fits (kill_area g) (start q).colouring s)

-- The ground is of the problem's board, its keeper is the attacker, and the board fits the state.
pub record IsPlaced (q : GameProblem) (g : Ground) (c : List Cell) : Type 0 where
  pub size : q.game.size ≡ side_of g.cells
  pub board : side_of (start q).colouring ≡ side_of g.cells
  pub attacker : opponent_of g.keeper ≡ q.game.defender
  pub state : IsState g c
  pub fits : Fits (kill_area g) (start q).colouring c

-- The attacker is to move, and the board fits an entry.
pub record IsEntered (q : GameProblem) (g : Ground) (l : EntryList) : Type 0 where
  pub first : IsTrue l.moves_first
  pub to_move : q.mover ≡ opponent_of q.game.defender
  pub entry : (i : ℕ) × (i < length l.states.items) × Fits (kill_area g) (start q).colouring (get_or l.states.items i [])

-- Or the defender is, after no pass, and is lost in the state.
pub record IsAnswered (q : GameProblem) (g : Ground) (targets : Points) (l : EntryList) (c : List Cell) : Type 0 where
  pub first : IsFalse l.moves_first
  pub to_move : q.mover ≡ q.game.defender
  pub passes : q.passes ≡ 0
  pub lost : IsLost (kill_area g) targets (entries_of l.states.items []) (length l.states.items) c

abbrev pub IsRoot : GameProblem → Ground → Points → EntryList → List Cell → Type 0
IsRoot q g targets l c = IsEntered q g l ⊎ IsAnswered q g targets l c
