-- What the definitions of life by shape imply. Each is proved; the calls of the module `laws` name them.
use Rattle.std.specs.Prelude.{◌≡◌, ℕ, ◌*◌, ◌<◌, ◌≤◌, Bool, IsTrue, IsFalse, List, [], ◌∷◌}
use Rattle.std.specs.List.{All}
use Rattle.go_points.specs.declared.Colour.{Colour}
use Rattle.go_points.specs.declared.Cell.{Cell}
use Rattle.go_points.specs.declared.Cell.TheVariants.{Empty, Stone}
use Rattle.go_points.specs.Grid.{opponent_of, points, cell_at}
use Rattle.go_points.specs.Place.{Place, IsOn}
use Rattle.go_points.specs.Move.{after_move}
use Rattle.go_chains.specs.Joined.{Joined}
use Rattle.target_game.specs.State.{Game, GameState}
use Rattle.target_game.specs.Kept.{kept_game}
use Rattle.target_game.specs.Legal.{holds_point}
use Rattle.target_game.specs.Wins.{wins, Wins}
use Rattle.target_game.specs.Status.{IsAlive}
use Rattle.pass_alive.specs.Life.{Points, Fixed, EyeSpace, Live, PassAlive}
use Rattle.pass_alive.specs.Sets.{game_of}
use Rattle.pass_alive.specs.Told.{play_bound, Tells}

-- What holds of each later colouring d, where the stones live in the colouring c and their owner has passed since: their chains
-- stand; no stone of theirs has come; no eye is full of the attacker's stones; and what was fixed is empty.
pub record Stands (g : Game) (c : List Cell) (stones : Points) (d : List Cell) : Type 0 where
  pub chains : (p q : ℕ) → IsTrue (stones p) → Joined g.size c p q → cell_at d q ≡ Stone g.defender
  pub none_new : (q : ℕ) → cell_at d q ≡ Stone g.defender → cell_at c q ≡ Stone g.defender
  pub eyes : (eye : Points) → EyeSpace g.size g.defender c stones eye → (q : ℕ) × IsTrue (eye q) × (cell_at d q ≡ Empty)
  pub fixed : (q : ℕ) → Fixed g.region c q → cell_at d q ≡ Empty

-- The attacker may move at the point p in the colouring d, as far as the past does not forbid it.
pub record MayMove (g : Game) (d : List Cell) (p : ℕ) : Type 0 where
  pub inside : IsTrue (holds_point g.region p)
  pub empty : cell_at d p ≡ Empty

-- It holds at first, and each move of the attacker leaves it so. A pass changes nothing.
abbrev pub PassAliveStands : Type 0
PassAliveStands = (g : Game) (c : List Cell) (stones : Points) → Live g c stones → Stands g c stones c

abbrev pub PassAliveStays : Type 0
PassAliveStays = (g : Game) (c : List Cell) (stones : Points) → Live g c stones → (d : List Cell) (p : ℕ) → Stands g c stones d → MayMove g d p → Stands g c stones (after_move g.size d (opponent_of g.defender) p)

-- The attacker wins no state whose targets live by their shape: whoever is to move, whatever has occurred, within any number of turns.
abbrev pub AttackerNeverWins : Type 0
AttackerNeverWins = (s : GameState) (k : ℕ) → PassAlive s.game s.colouring → IsFalse (wins (opponent_of s.game.defender) s k)

-- So the defender wins it.
abbrev pub DefenderWins : Type 0
DefenderWins = (s : GameState) → s.passes ≤ 2 → PassAlive s.game s.colouring → Wins s.game.defender s

-- So many turns are enough for it, whatever has occurred.
abbrev pub DefenderWinsWithin : Type 0
DefenderWinsWithin = (s : GameState) → s.passes ≤ 2 → PassAlive s.game s.colouring → IsTrue (wins s.game.defender s (play_bound s.game.size))

-- So the group is alive.
abbrev pub PassAliveIsAlive : Type 0
PassAliveIsAlive = (s : GameState) → s.passes ≡ 0 → PassAlive s.game s.colouring → IsAlive s

-- What lives in a region lives in each region that is part of it.
abbrev pub LivesInLess : Type 0
LivesInLess = (g : Game) (c : List Cell) (region : List ℕ) → ((q : ℕ) → IsTrue (holds_point region q) → IsTrue (holds_point g.region q)) → PassAlive g c → PassAlive (record g { region = region }) c

-- The colouring after these moves of the attacker, between which the defender passes; and whether each is at an empty point of the
-- region. What has occurred forbids nothing here.
abbrev pub after_moves : Game → List Cell → List ℕ → List Cell
after_moves g c [] = c
after_moves g c (p ∷ ps) = after_moves g (after_move g.size c (opponent_of g.defender) p) ps

abbrev pub AreMoves : Game → List Cell → List ℕ → Type 0
AreMoves g c [] = Unit {0}
AreMoves g c (p ∷ ps) = MayMove g c p × AreMoves g (after_move g.size c (opponent_of g.defender) p) ps

-- No moves of the attacker, however many and whatever has occurred, ever take a stone that lives by its shape.
abbrev pub NeverTaken : Type 0
NeverTaken = (g : Game) (c : List Cell) (stones : Points) → Live g c stones → (ps : List ℕ) → AreMoves g c ps → (p : ℕ) → IsTrue (stones p) → cell_at (after_moves g c ps) p ≡ Stone g.defender

-- The same on the whole board, without targets: the moves are at any empty points.
abbrev pub whole_board : ℕ → Colour → Game
whole_board n k = record { size = n; targets = []; defender = k; region = points n }

abbrev pub AreAnywhere : ℕ → Colour → List Cell → List ℕ → Type 0
AreAnywhere n k c [] = Unit {0}
AreAnywhere n k c (p ∷ ps) = (p < n * n) × (cell_at c p ≡ Empty) × AreAnywhere n k (after_move n c (opponent_of k) p) ps

abbrev pub NeverTakenAnywhere : Type 0
NeverTakenAnywhere = (n : ℕ) (k : Colour) (c : List Cell) (stones : Points) → Live (whole_board n k) c stones → (ps : List ℕ) → AreAnywhere n k c ps → (p : ℕ) → IsTrue (stones p) → cell_at (after_moves (whole_board n k) c ps) p ≡ Stone k

-- Where all targets and the region are on the board, as in every problem, the game of the decision is the problem's.
abbrev pub GamesAgree : Type 0
GamesAgree = (n : ℕ) (targets : List Place) (k : Colour) (region : List Place) → All (IsOn n) targets → All (IsOn n) region → game_of n targets k region ≡ kept_game n targets k region

-- Some test tells which colourings live by their shape: it cannot be that none does. (The definitions name none.)
abbrev pub ShapesCanBeTold : Type 0
ShapesCanBeTold = (g : Game) → ((shape : List Cell → Bool) × Tells g shape → ⊥) → ⊥
