-- Who wins a problem, and how hard it is.
use Rattle.std.specs.Prelude.{ℕ, ◌+◌, ◌/◌, Bool, true, false, min, nat_lt, if◌then◌else◌, Option, Some, None}
use Rattle.go_points.specs.declared.Colour.{Colour}
use Rattle.go_points.specs.Grid.{opponent_of}
use Rattle.first_moves.specs.declared.found.Solution.{Solution}
use Rattle.first_moves.specs.declared.found.Solution.TheVariants as solutions
use Rattle.first_moves.specs.declared.judged.Judged.{Judged}
use Rattle.first_moves.specs.declared.judged.Judged.TheVariants as judged

-- Is a claim of the other side accepted after the turn?
abbrev pub is_refuted : Judged → Bool
is_refuted (judged.Right checked) = false
is_refuted (judged.Refuted checked) = true
is_refuted judged.Ends = false
is_refuted judged.Unknown = false

abbrev pub winner_of_lost : Colour → Solution → Option Colour
winner_of_lost mover solutions.Unique = None
winner_of_lost mover solutions.Several = None
winner_of_lost mover solutions.Lost = Some (opponent_of mover)
winner_of_lost mover solutions.Open = None

-- One right turn is enough for the mover; the other side wins where every turn is known to lose.
abbrev pub winner_of : Colour → Solution → ℕ → Option Colour
winner_of mover solution winning = if nat_lt 0 winning then Some mover else winner_of_lost mover solution

-- A grade for each four points, from 1 to 9.
abbrev pub grade_of : ℕ → ℕ
grade_of points = min (points / 4 + 1) 9
