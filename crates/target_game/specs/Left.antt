-- The legal turns of a state that are still to come, where those before them have been taken in their order.
use Rattle.std.specs.Prelude.{◌≡◌, ℕ, ◌+◌, ◌-◌, ◌*◌, ◌<◌, ◌≤◌, Bool, true, false, List, [], ◌∷◌, ◌++◌, map, filter, Option, Some, None}
use Rattle.std.specs.List.{range_with_len}
use Rattle.go_points.specs.declared.Cell.TheVariants.{Empty}
use Rattle.go_points.specs.Grid.{same_cell, cell_at}
use Rattle.go_points.specs.Place.{Place, IsOn, number_of}
use Rattle.go_points.specs.Ply.{Ply, pass, move}
use Rattle.go_turns.specs.declared.fault.TurnFault.{TurnFault}
use Rattle.go_turns.specs.declared.fault.TurnFault.TheVariants.{Repeats}
use Rattle.target_game.specs.State.{GameState, Line}
use Rattle.target_game.specs.Legal.{legal, holds_point}
use Rattle.target_game.specs.Next.{next}

-- The legal moves from the point of this number on, and the pass.
abbrev pub turns_from : GameState → ℕ → List Ply
turns_from s i = map move (filter (λ p. legal s (move p)) (range_with_len i (s.game.size * s.game.size - i))) ++ pass ∷ []

-- The turns that are still to come: those from a point on, or none.
abbrev pub turns_due : GameState → Option ℕ → List Ply
turns_due s None = []
turns_due s (Some i) = turns_from s i

-- Where those after a turn begin: the pass is the last.
abbrev pub after_ply : Ply → Option ℕ
after_ply pass = None
after_ply (move p) = Some (p + 1)

-- The first of them, which is legal, was taken, and the others are left; or there was none.
abbrev pub Takes : GameState → Option ℕ → Option Ply → Option ℕ → Type 0
Takes s old None new = (old ≡ None) × (new ≡ None)
Takes s old (Some t) new = (turns_due s old ≡ t ∷ turns_due s new) × (legal s t ≡ true) × (new ≡ after_ply t)

-- The line of play with one more turn; with this turn if it is made; and with the turn that was taken, if one was.
abbrev pub line_after : Line → Ply → Line
line_after l t = record { state = next l.state t; before = l.state ∷ l.before }

abbrev pub line_if : Bool → Line → Ply → Line
line_if true l t = line_after l t
line_if false l t = l

abbrev pub line_with : Line → Option Ply → Line
line_with l None = l
line_with l (Some t) = line_after l t

-- DEFINITIONS FOR PRIVATE CALLS

-- No move from one number up to another is legal.
abbrev pub NoneLegal : GameState → ℕ → ℕ → Type 0
NoneLegal s a b = (j : ℕ) → a ≤ j → j < b → legal s (move j) ≡ false

-- The first empty point of the region from a number on: no move before it is legal.
pub record IsNextOpen (s : GameState) (from : ℕ) (p : Place) : Type 0 where
  pub on_board : IsOn s.game.size p
  pub later : from ≤ number_of s.game.size p
  pub empty : same_cell (cell_at s.colouring (number_of s.game.size p)) Empty ≡ true
  pub inside : holds_point s.game.region (number_of s.game.size p) ≡ true
  pub none : NoneLegal s from (number_of s.game.size p)

-- The first legal move from a number on.
pub record IsNextMove (s : GameState) (from : ℕ) (p : Place) : Type 0 where
  pub on_board : IsOn s.game.size p
  pub later : from ≤ number_of s.game.size p
  pub legal : legal s (move (number_of s.game.size p)) ≡ true
  pub none : NoneLegal s from (number_of s.game.size p)

-- Is the fault that the colouring has occurred?
abbrev pub is_repeat : TurnFault → Bool
is_repeat (Repeats earlier) = true
is_repeat _ = false
