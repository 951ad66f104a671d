-- Definitions for the private calls that read orders and follow them. No public clause rests on them.
use Rattle.std.specs.Prelude.{◌≡◌, ℕ, ◌<◌, ◌≤◌, ◌&&◌, nat_le, length, List, [], ◌∷◌, IsTrue, Option, Some, None, if◌then◌else◌}
use Rattle.std.specs.List.{All}
use Rattle.go_points.specs.declared.Colour.{Colour}
use Rattle.go_points.specs.declared.Turn.{Turn}
use Rattle.go_points.specs.declared.TheConstants.{MAX_SIZE}
use Rattle.go_points.specs.Grid.{opponent_of}
use Rattle.go_points.specs.Place.{IsOn}
use Rattle.go_points.specs.Ply.{ply_of}
use Rattle.go_turns.specs.declared.fault.TurnFault.{TurnFault}
use Rattle.go_turns.specs.declared.fault.TurnFault.TheVariants.{Memory}
use Rattle.target_game.specs.State.{GameProblem, start}
use Rattle.target_game.specs.Wins.{Wins}
use Rattle.gtp_core.specs.declared.command.Command.{Command}
use Rattle.gtp_core.specs.declared.command.Command.TheVariants.{SetTargets, SetRegion, Within}
use Rattle.gtp_core.specs.declared.search.Found.{Found}
use Rattle.gtp_core.specs.declared.search.Found.TheVariants as found
use Rattle.gtp_core.specs.declared.search.Known.{Known}
use Rattle.gtp_core.specs.Commands.{max_turns}
use Rattle.gtp_core.specs.Words.{colour_named, is_on_board}
use Rattle.gtp_core.specs.Serving.{IsWinning}
use Rattle.gtp_core.specs.Session.{GtpSession, problem_at}

-- The targets and the region of an order are points of the board, the region has at least one, and there are not too many turns.
abbrev pub FitsBoard : ℕ → Command → Type 0
FitsBoard n (SetTargets set) = All (IsOn n) set
FitsBoard n (SetRegion set) = All (IsOn n) set × (0 < length set)
FitsBoard n (Within k) = k ≤ max_turns
FitsBoard n other = Unit {0}

-- The colour that the first word names, and the size of a number.
abbrev pub first_colour : List (List ℕ) → Option Colour
first_colour [] = None
first_colour (word ∷ words) = colour_named word

abbrev pub size_numbered : ℕ → Option ℕ
size_numbered n = (if nat_le 1 n && nat_le n MAX_SIZE then Some n else None)

-- What a search has found for the colour k.
abbrev pub IsFound : Colour → GameProblem → Found → Type 0
IsFound k q (found.Win t) = IsWinning k q (ply_of q.game.size t)
IsFound k q found.Loss = Wins (opponent_of k) (start q)
IsFound k q found.Unknown = Unit {0}

-- The turn that it has found is one of the board.
abbrev pub FoundOnBoard : GameProblem → Found → Type 0
FoundOnBoard q (found.Win t) = IsTrue (is_on_board q.game.size t)
FoundOnBoard q other = Unit {0}

-- `IsFound`, when there may be no problem.
abbrev pub IsFoundAt : ℕ → Colour → Option GameProblem → Option Found → Type 0
IsFoundAt n k None None = Unit {0}
IsFoundAt n k (Some q) (Some f) = (q.game.size ≡ n) × IsFound k q f × FoundOnBoard q f
IsFoundAt n k _ _ = ⊥

-- What is known is found: it answers the session's present problem, for its colour.
abbrev pub IsKnown : GtpSession → Option Known → Type 0
IsKnown s None = Unit {0}
IsKnown s (Some known) = IsFoundAt s.turns.size known.colour (problem_at s known.colour) (Some known.found)

-- The rules refuse the turn; memory was not refused.
abbrev pub IsTurnFault : TurnFault → Type 0
IsTurnFault Memory = ⊥
IsTurnFault other = Unit {0}

-- A winning turn, if the board has it.
abbrev pub win_on_board : ℕ → Turn → Found
win_on_board n t = (if is_on_board n t then found.Win t else found.Unknown)
