-- A record of turns (this project's own): an opening moment and the moment that each play or setup left.
use Rattle.std.specs.Prelude.{◌≡◌, ℕ, Bool, true, false, ◌+◌, ◌*◌, nat_lt, List, [], ◌∷◌, ◌++◌, length, slice_index_or, slice_set, if◌then◌else◌, Option, Some, None, Result, Ok, Err}
use Rattle.std.specs.List.{list_all}
use Rattle.go_points.specs.declared.Colour.{Colour}
use Rattle.go_points.specs.declared.Cell.{Cell}
use Rattle.go_points.specs.declared.Cell.TheVariants.{Empty}
use Rattle.go_points.specs.Grid.{same_cell, cell_at}
use Rattle.go_points.specs.Liberty.{first_without_liberty}
use Rattle.go_points.specs.Move.{after_move}
use Rattle.go_points.specs.Place.{Place, on_board, number_of, place_of}
use Rattle.go_points.specs.Ply.{Ply, pass, move}
use Rattle.go_turns.specs.declared.fault.TurnFault.{TurnFault}
use Rattle.go_turns.specs.declared.fault.TurnFault.TheVariants.{OffBoard, Occupied, Repeats, NoLiberty, CannotUndo, Memory}
use Rattle.go_turns.specs.History.{place_in}

-- The colourings that have occurred, each once and in order, the place of the present one, the passes in a row, and the colour of the last play (none in the opening).
pub record Moment : Type 0 where
  pub history : List (List Cell)
  pub place : ℕ
  pub passes : ℕ
  pub last_colour : Option Colour

-- A record on a board of `size` rows: its present moment, and those before it, the latest first. The last of those, or the present
-- one if there are none, is the opening.
pub record GameRecord : Type 0 where
  pub size : ℕ
  pub present : Moment
  pub earlier : List Moment

-- The present colouring.
abbrev pub colouring_of : Moment → List Cell
colouring_of m = slice_index_or m.history m.place []

-- The moment after a pass of the colour k.
abbrev pub passed : Moment → Colour → Moment
passed m k = record m { passes = m.passes + 1; last_colour = Some k }

-- The moment after the colour k made the colouring c, which may already be at some place of the history: then it repeats.
abbrev pub moved : Moment → Colour → List Cell → Option ℕ → Result Moment TurnFault
moved m k c (Some earlier) = Err (Repeats earlier)
moved m k c None = Ok (record { history = m.history ++ c ∷ []; place = length m.history; passes = 0; last_colour = Some k })

-- The moment after a turn of the colour k, whoever played last, or the first refusal.
abbrev pub after_play : ℕ → Moment → Colour → Ply → Result Moment TurnFault
after_play n m k pass = Ok (passed m k)
after_play n m k (move p) = (if nat_lt p (n * n)
    then (if same_cell (cell_at (colouring_of m) p) Empty
    then (let c = after_move n (colouring_of m) k p in moved m k c (place_in m.history c))
    else Err Occupied)
    else Err OffBoard)

-- A place with what it is to hold, by the number of the place. Off the board it gets a number that no point has, so no rule allows it.
abbrev pub numbered : ℕ → Place × Cell → ℕ × Cell
numbered n a = ((if on_board n a.0 then number_of n a.0 else n * n), a.1)

-- The colouring after points are assigned in order.
abbrev pub assigned : List Cell → List (ℕ × Cell) → List Cell
assigned c [] = c
assigned c (a ∷ rest) = assigned (slice_set c a.0 a.1) rest

-- The moment after a setup to the colouring c, which joins the history if it is new.
abbrev pub set_to : Moment → List Cell → Option ℕ → Moment
set_to m c (Some earlier) = record m { place = earlier; passes = 0 }
set_to m c None = record m { history = m.history ++ c ∷ []; place = length m.history; passes = 0 }

-- Refused if a stone does not reach empty.
abbrev pub with_liberties : ℕ → Option ℕ → Moment → Result Moment TurnFault
with_liberties n (Some p) m = Err (NoLiberty (place_of n p))
with_liberties n None m = Ok m

-- The moment after a setup, or the first refusal.
abbrev pub after_setup : ℕ → Moment → List (ℕ × Cell) → Result Moment TurnFault
after_setup n m cells = (if list_all (λ a. nat_lt a.0 (n * n)) cells
    then (let c = assigned (colouring_of m) cells in with_liberties n (first_without_liberty n c) (set_to m c (place_in m.history c)))
    else Err OffBoard)

-- The opening with this history, or its refusal: every stone of the present colouring must reach empty.
abbrev pub opened : ℕ → List (List Cell) → ℕ → ℕ → Result Moment TurnFault
opened n history place passes =
    with_liberties n (first_without_liberty n (slice_index_or history place [])) (record { history = history; place = place; passes = passes; last_colour = None })

-- The record without steps at an opening, or the opening's refusal.
abbrev pub reopened : ℕ → Result Moment TurnFault → Result GameRecord TurnFault
reopened n (Ok m) = Ok (record { size = n; present = m; earlier = [] })
reopened n (Err fault) = Err fault

-- The record with one more step, if the step is not refused.
abbrev pub stepped : GameRecord → Result Moment TurnFault → Result GameRecord TurnFault
stepped r (Ok m) = Ok (record r { present = m; earlier = r.present ∷ r.earlier })
stepped r (Err fault) = Err fault

-- The record after a play, a setup and an undo, or the first refusal.
abbrev pub play_of : GameRecord → Colour → Ply → Result GameRecord TurnFault
play_of r k t = stepped r (after_play r.size r.present k t)

abbrev pub setup_of : GameRecord → List (ℕ × Cell) → Result GameRecord TurnFault
setup_of r cells = stepped r (after_setup r.size r.present cells)

-- The record set up to this colouring, whatever the points that change.
abbrev pub set_up : GameRecord → List Cell → Result GameRecord TurnFault
set_up r c = stepped r (with_liberties r.size (first_without_liberty r.size c) (set_to r.present c (place_in r.present.history c)))

abbrev pub without_last : GameRecord → List Moment → Result GameRecord TurnFault
without_last r [] = Err CannotUndo
without_last r (m ∷ ms) = Ok (record r { present = m; earlier = ms })

abbrev pub undo_of : GameRecord → Result GameRecord TurnFault
undo_of r = without_last r r.earlier

-- What a call did, if the definitions give `due`: the new record, or the fault with the record unchanged; or memory was refused,
-- which can happen only in place of a new record.
abbrev pub Did : Result GameRecord TurnFault → GameRecord → Result (Unit {0}) TurnFault → GameRecord → Type 0
Did (Ok r) old (Ok u) new = new ≡ r
Did (Ok r) old (Err fault) new = (fault ≡ Memory) × (new ≡ old)
Did (Err due) old (Ok u) new = ⊥
Did (Err due) old (Err fault) new = (fault ≡ due) × (new ≡ old)

-- `Did` for a call that says whether the definitions allow it, and fails only if memory is refused.
abbrev pub DidIfLegal : {E : Type 0} → Result GameRecord TurnFault → GameRecord → Result Bool E → GameRecord → Type 0
DidIfLegal (Ok r) old (Ok true) new = new ≡ r
DidIfLegal (Ok r) old (Ok false) new = ⊥
DidIfLegal (Ok r) old (Err error) new = new ≡ old
DidIfLegal (Err due) old (Ok true) new = ⊥
DidIfLegal (Err due) old (Ok false) new = new ≡ old
DidIfLegal (Err due) old (Err error) new = ⊥

-- `Did` for a call that allocates no memory.
abbrev pub DidWithoutMemory : Result GameRecord TurnFault → GameRecord → Result (Unit {0}) TurnFault → GameRecord → Type 0
DidWithoutMemory (Ok r) old (Ok u) new = new ≡ r
DidWithoutMemory (Ok r) old (Err fault) new = ⊥
DidWithoutMemory (Err due) old (Ok u) new = ⊥
DidWithoutMemory (Err due) old (Err fault) new = (fault ≡ due) × (new ≡ old)

-- What a new record is, if the definitions give `due`: that opening without steps, or the fault; or memory was refused, which can
-- happen only in place of a record.
abbrev pub Opens : ℕ → Result Moment TurnFault → Result GameRecord TurnFault → Type 0
Opens n (Ok m) (Ok r) = r ≡ record { size = n; present = m; earlier = [] }
Opens n (Ok m) (Err fault) = fault ≡ Memory
Opens n (Err due) (Ok r) = ⊥
Opens n (Err due) (Err fault) = fault ≡ due
