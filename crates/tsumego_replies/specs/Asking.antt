-- What a command asks its reader for, which tells `old` before and `new` after.
--     TakesWithin limit old new      no more than this many bytes
--     BeginsWithRecord told      the bytes that are told begin with a record
--     MayAsk command old new      what was asked for is within the bound of the command that the words give
use Rattle.std.specs.Prelude.{ℕ, ◌+◌, ◌≤◌, List, length, Option, Some, None, ◌⊎◌}
use Rattle.std.specs.Io.KnownBytes.{Consumes, Keeps}
use Rattle.sgf_text.specs.Trees.{GameTree}
use Rattle.target_game.specs.State.{GameProblem}
use Rattle.proof_cert.specs.Streamed.{Tells}
use Rattle.tsumego_words.specs.declared.command_line.Command.{Command}
use Rattle.tsumego_words.specs.declared.command_line.Command.TheVariants.{Check, Gtp}
use Rattle.tsumego_replies.specs.Answers.{IsRecord}
use Rattle.tsumego_replies.specs.Bounds.{front_limit, session_limit, block_limit}

abbrev pub TakesWithin : ℕ → Option (List ℕ) → Option (List ℕ) → Type 0
TakesWithin limit old new = (bytes : List ℕ) × Consumes old new bytes × (length bytes ≤ limit)

abbrev pub BeginsWithRecord : Option (List ℕ) → Type 0
BeginsWithRecord told = (bytes : List ℕ) × Tells told bytes × (q : GameProblem) × (tree : GameTree) × (n : ℕ) × IsRecord bytes tree n q

-- Words that ask for nothing read nothing. `check` reads on only behind a record; the lines of a claim have no bound in bytes.
abbrev pub MayAsk : Option Command → Option (List ℕ) → Option (List ℕ) → Type 0
MayAsk None old new = Keeps old new
MayAsk (Some Check) old new = TakesWithin front_limit old new ⊎ BeginsWithRecord old
MayAsk (Some Gtp) old new = TakesWithin (session_limit + block_limit) old new
MayAsk _ old new = TakesWithin front_limit old new
