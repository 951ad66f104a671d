-- The parts of problems and states, as values of the definitions.
use Rattle.std.specs.Prelude.{◌≡◌, ℕ, List, [], ◌∷◌, map, Option, Some, None, Ok}
use Rattle.std.specs.List.{range_with_len}
use Rattle.std.specs.Prelude.{find, ◌*◌, ◌-◌}
use Rattle.go_points.specs.declared.Colour.{Colour}
use Rattle.go_points.specs.declared.Cell.{Cell}
use Rattle.go_points.specs.Grid.{opponent_of}
use Rattle.go_points.specs.Place.{Place, number_of, place_of}
use Rattle.go_points.specs.Ply.{Ply, pass, move}
use Rattle.go_turns.specs.Record.{Moment, GameRecord, colouring_of}
use Rattle.go_turns.specs.declared.fault.TurnFault.{TurnFault}
use Rattle.go_turns.specs.declared.fault.TurnFault.TheVariants as turns
use Rattle.target_game.specs.declared.state.AtFault.{AtFault}
use Rattle.target_game.specs.declared.state.AtFault.TheVariants.{NoLiberty, Memory}
use Rattle.target_game.specs.State.{Game, GameState, GameProblem, Line}
use Rattle.target_game.specs.Legal.{legal}
use Rattle.target_game.specs.Problem.{problem_of}

-- A game on a board of n rows, by its targets and its region as sets of points.
abbrev pub kept_game : ℕ → List Place → Colour → List Place → Game
kept_game n targets defender region = record { size = n; targets = map (number_of n) targets; defender = defender; region = map (number_of n) region }

abbrev pub kept_problem : ℕ → List (List Cell) → ℕ → Colour → ℕ → List Place → Colour → List Place → GameProblem
kept_problem n history place mover passes targets defender region =
    record { game = kept_game n targets defender region; history = history; place = place; mover = mover; passes = passes }

-- The parts of a problem are those of which the problem is made.
abbrev pub IsMadeOf : ℕ → List (List Cell) → ℕ → Colour → ℕ → List Place → Colour → List Place → Type 0
IsMadeOf n history place mover passes targets defender region =
    problem_of history place mover passes targets region ≡ Ok (kept_problem n history place mover passes targets defender region)

-- The state at a moment of a record, with the colour k to move; and those at the moments before it, at which the sides took turns.
abbrev pub kept_state : Game → Colour → Moment → GameState
kept_state g k m = record { game = g; colouring = colouring_of m; history = m.history; mover = k; passes = m.passes }

abbrev pub kept_before : Game → Colour → List Moment → List GameState
kept_before g k [] = []
kept_before g k (m ∷ ms) = kept_state g (opponent_of k) m ∷ kept_before g (opponent_of k) ms

abbrev pub kept_line : Game → Colour → GameRecord → Line
kept_line g k r = record { state = kept_state g k r.present; before = kept_before g k r.earlier }

-- Why there is no state, if there is no record.
abbrev pub at_fault : TurnFault → AtFault
at_fault (turns.NoLiberty p) = NoLiberty p
at_fault _ = Memory

-- Why there is no state with only this colouring: the least point whose stone does not reach empty; if every stone does, only that
-- memory was refused.
abbrev pub IsAtFault : ℕ → Option ℕ → AtFault → Type 0
IsAtFault n (Some p) fault = fault ≡ NoLiberty (place_of n p)
IsAtFault n None fault = fault ≡ Memory

-- The first legal turn at a point with this number or a greater one; the pass if there is none.
abbrev pub turn_or_pass : Option ℕ → Ply
turn_or_pass None = pass
turn_or_pass (Some p) = move p

unfoldable pub turn_from : GameState → ℕ → Ply
turn_from s from = turn_or_pass (find (λ p. legal s (move p)) (range_with_len from (s.game.size * s.game.size - from)))
