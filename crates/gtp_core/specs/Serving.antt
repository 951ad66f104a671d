-- How a session may serve a line. It is a function of the session and the line, with three freedoms: what a search tells, what it
-- plays, and whether memory is refused.
--     due_of s order      what an order is due
--     Meets old id due out new      the order gets what it is due
--     Serves old line out new      a raw line is served: this is written, and this is the session after it
use Rattle.std.specs.Prelude.{◌≡◌, ℕ, zero, suc, Bool, true, false, List, [], ◌∷◌, ◌++◌, codes, take, drop, IsTrue, Option, Some, None, Result, Ok, Err, ◌⊎◌}
use Rattle.std.specs.Option.{option_map_or}
use Rattle.go_points.specs.declared.Colour.{Colour}
use Rattle.go_points.specs.declared.Colour.TheVariants.{Black, White}
use Rattle.go_points.specs.declared.Turn.{Turn}
use Rattle.go_points.specs.Grid.{opponent_of}
use Rattle.go_points.specs.Place.{Place}
use Rattle.go_points.specs.Ply.{Ply, pass, ply_of}
use Rattle.go_points.specs.Text.{text_of}
use Rattle.go_turns.specs.Record.{GameRecord, play_of, undo_of}
use Rattle.go_turns.specs.declared.fault.TurnFault.{TurnFault}
use Rattle.target_game.specs.declared.within.Within.{Within}
use Rattle.target_game.specs.declared.within.Within.TheVariants as within
use Rattle.target_game.specs.State.{GameProblem, start}
use Rattle.target_game.specs.Legal.{legal}
use Rattle.target_game.specs.Next.{next}
use Rattle.target_game.specs.Wins.{Wins}
use Rattle.target_game.specs.Within.{decision}
use Rattle.gtp_core.specs.declared.command.Command.{Command}
use Rattle.gtp_core.specs.declared.command.Command.TheVariants as command
use Rattle.gtp_core.specs.declared.refusal.Refusal.{Refusal}
use Rattle.gtp_core.specs.declared.refusal.Refusal.TheVariants as refusal
use Rattle.gtp_core.specs.declared.fed.Fed.{Fed}
use Rattle.gtp_core.specs.declared.fed.Fed.TheVariants as fed
use Rattle.gtp_core.specs.Lines.{Request, nothing, bad_line, asks, request_of}
use Rattle.gtp_core.specs.Words.{turn_at, turn_text, success, failure}
use Rattle.gtp_core.specs.Commands.{Order, order_of, said, refusal_text}
use Rattle.gtp_core.specs.Session.{GtpSession, new_session, size_of, board_of, stones_at, next_mover, problem_at}

-- An answer with the session after it; a refusal; the end; or what a search for this colour finds, told or played, if there is a
-- problem.
pub data Due : Type 0 where
  answers : (text : List ℕ) (new : GtpSession) → Due
  refuses : Refusal → Due
  ends : Due
  tells : Colour → GameProblem → Due
  plays : Colour → Option GameProblem → Due

-- The session with another record or other targets.
abbrev pub with_turns : GtpSession → GameRecord → GtpSession
with_turns s r = record s { turns = r }

abbrev pub with_targets : GtpSession → List Place → GtpSession
with_targets s set = record s { targets = set }

abbrev pub record_due : GtpSession → Refusal → Result GameRecord TurnFault → Due
record_due s why (Ok r) = answers [] (with_turns s r)
record_due s why (Err fault) = refuses why

-- What a value is due; if there is none, this refusal.
abbrev pub due_or_refusal : {A : Type 0} → Refusal → Option A → (A → Due) → Due
due_or_refusal why value due = option_map_or due value (refuses why)

abbrev pub turn_due : GtpSession → Colour → Turn → Due
turn_due s k t = record_due s refusal.IllegalMove (play_of s.turns k (ply_of (size_of s) t))

-- This many rows of n bytes, each after a line feed. The text of the board is that of its rows, without the first line feed.
abbrev pub fed_rows : ℕ → ℕ → List ℕ → List ℕ
fed_rows n zero text = []
fed_rows n (suc k) text = 10 ∷ take n text ++ fed_rows n k (drop n text)

abbrev pub board_text : GtpSession → List ℕ
board_text s = drop 1 (fed_rows (size_of s) (size_of s) (text_of (board_of s)))

abbrev pub target_due : GtpSession → List Place → Due
target_due s [] = answers [] (with_targets s [])
target_due s (p ∷ ps) = elim (stones_at s (p ∷ ps)) [ None ↦ refuses refusal.BadTargets | Some k ↦ answers [] (with_targets s (p ∷ ps)) ]

abbrev pub within_text : Within → List ℕ
within_text (within.Wins Black) = codes "wins Black"
within_text (within.Wins White) = codes "wins White"
within_text within.Neither = codes "neither"
within_text within.Limit = codes "limit"

-- The greatest number of states of a decision.
abbrev pub max_nodes : ℕ
max_nodes = 1000000

abbrev pub within_due : GtpSession → ℕ → GameProblem → Due
within_due s k q = answers (within_text (decision (start q) k max_nodes)) s

abbrev pub command_due : GtpSession → Command → Due
command_due s (command.Say saying) = answers (said saying) s
command_due s command.Quit = ends
command_due s (command.NewBoard n) = answers [] (new_session n)
command_due s command.ClearBoard = answers [] (new_session (size_of s))
command_due s (command.Play k v) = due_or_refusal refusal.IllegalMove (turn_at (size_of s) v) (turn_due s k)
command_due s (command.Genmove k) = plays k (problem_at s k)
command_due s command.Undo = record_due s refusal.CannotUndo (undo_of s.turns)
command_due s command.Showboard = answers (board_text s) s
command_due s (command.SetTargets set) = target_due s set
command_due s (command.SetRegion set) = answers [] (record s { region = set })
command_due s (command.Solve k) = due_or_refusal refusal.NoProblem (problem_at s k) (tells k)
command_due s (command.Within k) = due_or_refusal refusal.NoProblem (problem_at s (next_mover s)) (within_due s k)

abbrev pub due_of : GtpSession → Order → Due
due_of s (Ok c) = command_due s c
due_of s (Err why) = refuses why

-- The turn is legal, and the side wins after it.
pub record IsWinning (k : Colour) (q : GameProblem) (t : Ply) : Type 0 where
  pub legal : IsTrue (legal (start q) t)
  pub wins : Wins k (next (start q) t)

-- A search may tell a winning turn; or that the opponent wins; or nothing.
abbrev pub MayTell : ℕ → Colour → GameProblem → List ℕ → Type 0
MayTell n k q text =
    ((t : Ply) × IsWinning k q t × (text ≡ codes "win " ++ turn_text n t))
    ⊎ (Wins (opponent_of k) (start q) × (text ≡ codes "loss"))
    ⊎ (text ≡ codes "unknown")

-- It may play a winning turn of the problem, if there is one, or pass.
abbrev pub MayPlay : Colour → Option GameProblem → Ply → Type 0
MayPlay k None t = t ≡ pass
MayPlay k (Some q) t = IsWinning k q t ⊎ (t ≡ pass)

-- What is written for a line, and whether the session ends with it.
pub record Output : Type 0 where
  pub bytes : List ℕ
  pub ends : Bool

abbrev pub silence : Output
silence = record { bytes = []; ends = false }

abbrev pub reply : List ℕ → Output
reply bytes = record { bytes = bytes; ends = false }

abbrev pub last_reply : List ℕ → Output
last_reply bytes = record { bytes = bytes; ends = true }

-- The turn that was played is one that may be played, and the record has it.
pub record IsPlayed (old : GtpSession) (id : List ℕ) (k : Colour) (q : Option GameProblem) (out : Output) (new : GtpSession) : Type 0 where
  pub turn : Ply
  pub may : MayPlay k q turn
  pub written : out ≡ reply (success id (turn_text (size_of old) turn))
  pub after : GameRecord
  pub played : play_of old.turns k turn ≡ Ok after
  pub kept : new ≡ with_turns old after

abbrev pub Meets : GtpSession → List ℕ → Due → Output → GtpSession → Type 0
Meets old id (answers text s) out new = (out ≡ reply (success id text)) × (new ≡ s)
Meets old id (refuses why) out new = (out ≡ reply (failure id (refusal_text why))) × (new ≡ old)
Meets old id ends out new = (out ≡ last_reply (success id [])) × (new ≡ old)
Meets old id (tells k q) out new = (text : List ℕ) × MayTell (size_of old) k q text × (out ≡ reply (success id text)) × (new ≡ old)
Meets old id (plays k q) out new = IsPlayed old id k q out new

-- What a call of the program gives.
abbrev pub output_of : Fed → Output
output_of fed.Nothing = silence
output_of (fed.Reply bytes) = reply bytes.items
output_of (fed.Quit bytes) = last_reply bytes.items

-- What a line gets if memory is not refused.
abbrev pub Answers : GtpSession → Request → Output → GtpSession → Type 0
Answers old nothing out new = (out ≡ silence) × (new ≡ old)
Answers old bad_line out new = (out ≡ reply (failure [] (codes "syntax error"))) × (new ≡ old)
Answers old (asks id words) out new = Meets old id (due_of old (order_of (size_of old) words)) out new

-- Memory was refused, which a line that asks for nothing never needs: the reply has no id, and the session is as before.
abbrev pub needs_memory : Request → Bool
needs_memory nothing = false
needs_memory bad_line = true
needs_memory (asks id words) = true

pub record HadNoMemory (old : GtpSession) (request : Request) (out : Output) (new : GtpSession) : Type 0 where
  pub needed : IsTrue (needs_memory request)
  pub written : out ≡ reply (failure [] (codes "out of memory"))
  pub kept : new ≡ old

abbrev pub Serves : GtpSession → List ℕ → Output → GtpSession → Type 0
Serves old line out new = Answers old (request_of line) out new ⊎ HadNoMemory old (request_of line) out new
