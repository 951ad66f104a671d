-- Which problems there are (this project's own): the refusals, in the order in which they are checked.
use Rattle.std.specs.Prelude.{ℕ, ◌*◌, Bool, not, ◌&&◌, nat_eq, nat_lt, nat_le, List, [], ◌∷◌, map, length, slice_index_or, if◌then◌else◌, Option, Some, None, is_none, Result, Ok, Err}
use Rattle.std.specs.List.{list_all}
use Rattle.go_points.specs.declared.Colour.{Colour}
use Rattle.go_points.specs.declared.Colour.TheVariants.{Black}
use Rattle.go_points.specs.declared.Cell.{Cell}
use Rattle.go_points.specs.declared.Cell.TheVariants.{Empty, Stone}
use Rattle.go_points.specs.Grid.{same_cell, cell_at, side_of}
use Rattle.go_points.specs.Liberty.{all_reach_empty}
use Rattle.go_points.specs.Place.{Place, on_board, number_of}
use Rattle.go_turns.specs.History.{repeats}
use Rattle.target_game.specs.declared.bad_problem.BadProblem.{BadProblem}
use Rattle.target_game.specs.declared.bad_problem.BadProblem.TheVariants.{OtherSize, BadPlace, BadTargets, Ended, EmptyRegion, LongHistory, NoLiberty, Repeated}
use Rattle.target_game.specs.declared.TheConstants.{MAX_HISTORY}
use Rattle.target_game.specs.State.{GameProblem}

-- The colour of all these cells, if there is at least one and all are stones of one colour.
abbrev pub one_colour : List Cell → Option Colour
one_colour [] = None
one_colour (Empty ∷ rest) = None
one_colour (Stone x ∷ rest) = (if list_all (same_cell (Stone x)) rest then Some x else None)

-- The first refusal whose test passes.
abbrev pub first_refusal : List (Bool × BadProblem) → Option BadProblem
first_refusal [] = None
first_refusal (t ∷ rest) = (if t.0 then Some t.1 else first_refusal rest)

-- The tests, in order. The size is that of the first colouring; the targets are checked on the present one.
abbrev pub refusals : ℕ → List (List Cell) → ℕ → ℕ → List Place → List Place → List (Bool × BadProblem)
refusals n history place passes targets region =
    (not (list_all (λ c. nat_eq (length c) (n * n)) history && list_all (on_board n) targets && list_all (on_board n) region), OtherSize)
    ∷ (not (nat_lt place (length history)), BadPlace)
    ∷ (is_none (one_colour (map (λ p. cell_at (slice_index_or history place []) (number_of n p)) targets)), BadTargets)
    ∷ (nat_le 2 passes, Ended)
    ∷ (nat_eq (length region) 0, EmptyRegion)
    ∷ (nat_lt MAX_HISTORY (length history), LongHistory)
    ∷ (not (list_all (all_reach_empty n) history), NoLiberty)
    ∷ (repeats history, Repeated)
    ∷ []

abbrev pub the_colour : Option Colour → Colour
the_colour (Some x) = x
the_colour None = Black

abbrev pub unless_refused : Option BadProblem → GameProblem → Result GameProblem BadProblem
unless_refused (Some fault) q = Err fault
unless_refused None q = Ok q

-- The problem on a board of n rows, or the first refusal. The defender is the targets' colour.
abbrev pub problem_on : ℕ → List (List Cell) → ℕ → Colour → ℕ → List Place → List Place → Result GameProblem BadProblem
problem_on n history place mover passes targets region =
    unless_refused (first_refusal (refusals n history place passes targets region)) (record {
      game = record {
        size = n;
        targets = map (number_of n) targets;
        defender = the_colour (one_colour (map (λ p. cell_at (slice_index_or history place []) (number_of n p)) targets));
        region = map (number_of n) region;
      };
      history = history;
      place = place;
      mover = mover;
      passes = passes;
    })

-- The problem of a history, the place of the present colouring in it, the colour to move, the passes in a row, the targets and the region; or the first refusal. The board is that of the first colouring.
unfoldable pub problem_of : List (List Cell) → ℕ → Colour → ℕ → List Place → List Place → Result GameProblem BadProblem
problem_of [] place mover passes targets region = Err BadPlace
problem_of (c ∷ cs) place mover passes targets region = problem_on (side_of c) (c ∷ cs) place mover passes targets region
