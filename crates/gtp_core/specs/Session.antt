-- A session (this project's own): its record since the new board, the targets and the region; and the problem that it has reached.
--     new_session n      the session with a new board of n rows
--     problem_at s k      its problem with the colour k to move, if it has one
use Rattle.std.specs.Prelude.{ℕ, ◌*◌, Bool, not, ◌&&◌, nat_le, nat_lt, List, [], ◌∷◌, length, map, replicate, Option, None, option_map, if◌then◌else◌}
use Rattle.std.specs.Option.{option_map_or}
use Rattle.go_points.specs.declared.Colour.{Colour}
use Rattle.go_points.specs.declared.Colour.TheVariants.{Black}
use Rattle.go_points.specs.declared.Cell.{Cell}
use Rattle.go_points.specs.declared.Cell.TheVariants.{Empty}
use Rattle.go_points.specs.Grid.{cell_at, opponent_of}
use Rattle.go_points.specs.Place.{Place, number_of}
use Rattle.go_turns.specs.Record.{GameRecord, Moment, colouring_of}
use Rattle.target_game.specs.declared.TheConstants.{MAX_HISTORY}
use Rattle.target_game.specs.Problem.{one_colour}
use Rattle.target_game.specs.State.{GameProblem}
use Rattle.gtp_core.specs.Commands.{whole_board}

pub record GtpSession : Type 0 where
  pub turns : GameRecord
  pub targets : List Place
  pub region : List Place

-- A new board: its history is the empty colouring, there are no targets, and the region is the whole board.
abbrev pub new_record : ℕ → GameRecord
new_record n = record { size = n; present = record { history = replicate (n * n) Empty ∷ []; place = 0; passes = 0; last_colour = None }; earlier = [] }

abbrev pub new_session : ℕ → GtpSession
new_session n = record { turns = new_record n; targets = []; region = whole_board n }

-- The size and the colouring of its board.
abbrev pub size_of : GtpSession → ℕ
size_of s = s.turns.size

abbrev pub board_of : GtpSession → List Cell
board_of s = colouring_of s.turns.present

-- The colour of the stones at these points, if all are stones of one colour.
abbrev pub stones_at : GtpSession → List Place → Option Colour
stones_at s ps = one_colour (map (λ p. cell_at (board_of s) (number_of (size_of s) p)) ps)

-- The colour that did not make the last turn on the record, or Black if there is no turn.
abbrev pub next_mover : GtpSession → Colour
next_mover s = option_map_or opponent_of s.turns.present.last_colour Black

-- The problem of the present colouring with the whole history and the passes, in which this colour defends the targets.
abbrev pub problem_with : GtpSession → Colour → Colour → GameProblem
problem_with s k defender = record {
  game = record { size = size_of s; targets = map (number_of (size_of s)) s.targets; defender = defender; region = map (number_of (size_of s)) s.region };
  history = s.turns.present.history;
  place = s.turns.present.place;
  mover = k;
  passes = s.turns.present.passes;
}

-- After two passes, or if too many colourings have occurred, there is no question to ask.
abbrev pub has_question : Moment → Bool
has_question m = not (nat_le 2 m.passes) && not (nat_lt MAX_HISTORY (length m.history))

-- The session's problem, if the targets are now stones of one colour.
unfoldable pub problem_at : GtpSession → Colour → Option GameProblem
problem_at s k = (if has_question s.turns.present then option_map (problem_with s k) (stones_at s s.targets) else None)
