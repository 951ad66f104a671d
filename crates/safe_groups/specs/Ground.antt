-- An area as the judge holds it: a colouring on which the kept stones stand, the region is empty, and every other point holds a
-- stone of the other side; and four on which the keeper's stones mark points: those at which it answers, the stones that are held, those
-- that are kept earlier, and those that the area gives a liberty.
use Rattle.std.specs.Prelude.{◌≡◌, ◌<◌, ◌*◌, ℕ, ◌&&◌, nat_lt, length, ◌⊎◌, IsTrue, List, [], slice_set, get_or, if◌then◌else◌, Option, None, Some}
use Rattle.std.specs.List.{All}
use Rattle.go_points.specs.declared.Colour.{Colour}
use Rattle.go_points.specs.declared.Colour.TheVariants.{Black}
use Rattle.go_points.specs.declared.Cell.{Cell}
use Rattle.go_points.specs.declared.Cell.TheVariants.{Empty, Stone}
use Rattle.go_points.specs.Grid.{cell_at, same_cell, side_of}
use Rattle.go_points.specs.Place.{Place, number_of}
use Rattle.go_turns.specs.History.{has_occurred}
use Rattle.target_game.specs.State.{GameProblem, GameState, start}
use Rattle.target_game.specs.Legal.{holds_point}
use Rattle.safe_groups.specs.Areas.{Area, Points, States, own, theirs, is_outside, after_other, IsWalled, Rooted, IsAtRest, Leans, IsAnswered, IsAnswer, Replies, Fits}
use Rattle.safe_groups.specs.Eyes.{IsResting}
use Rattle.safe_groups.specs.Together.{Areas, AreInOrder, IsKept, PastFits}
use Rattle.safe_groups.specs.Laws.{IsSafe, IsSafeAfter}
use Rattle.safe_groups.specs.declared.ground.Ground.{Ground}

-- the points that hold one of the keeper's stones on the colouring
abbrev pub marked : Ground → List Cell → Points
marked g c = λ p. same_cell (cell_at c p) (Stone g.keeper)

abbrev pub area_of : Ground → Area
area_of g = record {
  size = side_of g.cells;
  keeper = g.keeper;
  kept = λ p. same_cell (cell_at g.cells p) (Stone g.keeper);
  region = λ p. nat_lt p (side_of g.cells * side_of g.cells) && same_cell (cell_at g.cells p) Empty;
  answers = λ p. nat_lt p (side_of g.cells * side_of g.cells) && same_cell (cell_at g.cells p) Empty && same_cell (cell_at g.marks p) (Stone g.keeper);
  held = λ p. same_cell (cell_at g.held p) (Stone g.keeper);
  earlier = λ p. same_cell (cell_at g.earlier p) (Stone g.keeper);
  gives = λ p. same_cell (cell_at g.gives p) (Stone g.keeper);
}

-- What each point of a state holds: what it does on the ground, unless it is of the region.
pub record IsWalledAt (a : Area) (c : List Cell) (p : ℕ) : Type 0 where
  pub kept : IsTrue (a.kept p) → cell_at c p ≡ own a
  pub outside : IsTrue (is_outside a p) → cell_at c p ≡ theirs a

-- A colouring of a board of n rows.
pub record IsOfSize (n : ℕ) (c : List Cell) : Type 0 where
  pub side : side_of c ≡ n
  pub full : length c ≡ n * n

-- All colourings of a ground are of one size.
pub record IsSized (n : ℕ) (g : Ground) : Type 0 where
  pub cells : IsOfSize n g.cells
  pub marks : IsOfSize n g.marks
  pub held : IsOfSize n g.held
  pub earlier : IsOfSize n g.earlier
  pub gives : IsOfSize n g.gives

-- a state of the area, on a board of its size
pub record IsState (g : Ground) (c : List Cell) : Type 0 where
  pub side : side_of c ≡ side_of g.cells
  pub walled : IsWalled (area_of g) c

-- the states of a claim
abbrev pub states_of : List (List Cell) → States
states_of states c = has_occurred states c

-- What a point holds in one colouring outside, and in another one inside.
abbrev pub part_cell : Area → List Cell → List Cell → ℕ → Cell
part_cell a inside outside p = (if is_outside a p then cell_at outside p else cell_at inside p)

-- What a point holds with nothing outside, and the keeper's stones where the state is empty.
abbrev pub shut_cell : Area → List Cell → ℕ → Cell
shut_cell a c p = (if is_outside a p then Empty else (if same_cell (cell_at c p) Empty then own a else cell_at c p))

-- What a point holds where the keeper's stones at these points are taken away.
abbrev pub lifted_cell : Area → List Cell → List Cell → ℕ → Cell
lifted_cell a c points p = (if same_cell (cell_at points p) (own a) && same_cell (cell_at c p) (own a) then Empty else cell_at c p)

-- The board fits the state at a point: it is outside, or the board holds what the state does, or lacks a rooted stone.
abbrev pub FitsAt : Area → List Cell → List Cell → ℕ → Type 0
FitsAt a b c p = IsTrue (is_outside a p) ⊎ ((cell_at b p ≡ cell_at c p) ⊎ ((cell_at b p ≡ Empty) × (cell_at c p ≡ theirs a) × Rooted a c p))

-- The other side's move at x, if the point is empty, takes no stone of the keeper's, and is answered.
pub record IsMoveAnswered (a : Area) (W : States) (c : List Cell) (x : ℕ) : Type 0 where
  pub untaken : (p : ℕ) → cell_at c p ≡ own a → Leans a a.held (slice_set c x (theirs a)) p
  pub answered : IsAnswered a W (after_other a c x)

-- Each move in the state is answered.
abbrev pub IsStateAnswered : Area → States → List Cell → Type 0
IsStateAnswered a W c = (x : ℕ) → x < a.size * a.size → cell_at c x ≡ Empty → IsMoveAnswered a W c x

-- A state at rest. The listed states are such states of the ground.
pub record IsSettled (g : Ground) (c : List Cell) : Type 0 where
  pub state : IsState g c
  pub at_rest : IsAtRest (area_of g) c

abbrev pub AreStates : Ground → List (List Cell) → Type 0
AreStates g states = All (IsSettled g) states

-- Each is answered, or nothing is to be answered in it.
abbrev pub IsJudged : Ground → List (List Cell) → List Cell → Type 0
IsJudged g states c = IsStateAnswered (area_of g) (states_of states) c ⊎ IsResting (area_of g) c

abbrev pub AreJudged : Ground → List (List Cell) → Type 0
AreJudged g states = All (IsJudged g states) states

-- There are states with answers, of which this is one.
pub record HasReplies (g : Ground) (c : List Cell) : Type 0 where
  pub states : States
  pub replies : Replies (area_of g) states
  pub listed : IsTrue (states c)

-- The past bars none of the answers: this colouring lacks a stone that is kept, or has the keeper nowhere at an answer where the state
-- has not.
abbrev pub BarsNone : Ground → List Cell → List Cell → Type 0
BarsNone g c q = (p : ℕ) → IsTrue ((area_of g).answers p) → cell_at q p ≡ own (area_of g) → cell_at c p ≡ own (area_of g)

-- The grounds of a claim, by their numbers, and its areas.
abbrev pub ground_at : List Ground → ℕ → Ground
ground_at gs i = get_or gs i (record { cells = []; marks = []; held = []; earlier = []; gives = []; group = 0; keeper = Black })

abbrev pub state_at : List (List Cell) → ℕ → List Cell
state_at begins i = get_or begins i []

abbrev pub areas_of : List Ground → Areas
areas_of gs = record {
  count = length gs;
  group = λ i. (ground_at gs i).group;
  kept = λ i. (area_of (ground_at gs i)).kept;
  region = λ i. (area_of (ground_at gs i)).region;
  answers = λ i. (area_of (ground_at gs i)).answers;
  held = λ i. (area_of (ground_at gs i)).held;
  earlier = λ i. (area_of (ground_at gs i)).earlier;
  gives = λ i. (area_of (ground_at gs i)).gives;
}

-- A ground of the problem's board, where this side keeps, and the state that the board fits.
pub record IsOfBoard (q : GameProblem) (k : Colour) (g : Ground) (c : List Cell) : Type 0 where
  pub sized : IsSized q.game.size g
  pub keeper : g.keeper ≡ k
  pub state : IsState g c
  pub fits : Fits (area_of g) (start q).colouring c
  pub allowed : (p : ℕ) → IsTrue ((area_of g).answers p) → IsTrue (holds_point q.game.region p)

-- The areas of a claim, where this side keeps, are of the problem's board, they are in order, and no earlier position bars an answer.
pub record HoldsOn (q : GameProblem) (k : Colour) (gs : List Ground) (begins : List (List Cell)) : Type 0 where
  pub board : side_of (start q).colouring ≡ q.game.size
  pub full : length (start q).colouring ≡ q.game.size * q.game.size
  pub lengths : length gs ≡ length begins
  pub each : (i : ℕ) → i < length gs → IsOfBoard q k (ground_at gs i) (state_at begins i)
  pub order : AreInOrder (areas_of gs)
  pub past : PastFits k (areas_of gs) (state_at begins) q.history

-- The defender keeps, and all targets are kept.
pub record HoldsFor (q : GameProblem) (gs : List Ground) (begins : List (List Cell)) : Type 0 where
  pub areas : HoldsOn q q.game.defender gs begins
  pub targets : (p : ℕ) → IsTrue (holds_point q.game.targets p) → IsKept q.game.defender (areas_of gs) (state_at begins) p

-- The state of play with these points as its targets.
abbrev pub aimed_at : List ℕ → GameState → GameState
aimed_at points s = record { game = record { size = s.game.size; region = s.game.region; targets = points; defender = s.game.defender }; colouring = s.colouring; history = s.history; mover = s.mover; passes = s.passes }

-- The targets are safe, or they are once the defender, who is to move, has played at this point.
abbrev pub IsSafeAs : Option Place → GameState → Type 0
IsSafeAs None s = IsSafe s
IsSafeAs (Some p) s = IsSafeAfter (number_of s.game.size p) s

-- The state after the keeper's move from this one, which is of an area that has answers.
pub record IsMoveFrom (g : Ground) (c : List Cell) (r : ℕ) : Type 0 where
  pub states : States
  pub replies : Replies (area_of g) states
  pub answer : IsAnswer (area_of g) states c r

-- The same of the state with any of these stones of the defender's as its targets.
abbrev pub AllSafe : Option Place → GameState → List Cell → Type 0
AllSafe first s stones = (points : List ℕ) → ((p : ℕ) → IsTrue (holds_point points p) → cell_at stones p ≡ Stone s.game.defender) → IsSafeAs first (aimed_at points s)
