-- What each command that reads a record answers: the whole text, and the status with it. A session reads no record, and nothing is
-- said about it here.
--     check_answer, within_answer, audit_answer      the answers to what the definitions of claims, of winning and of answer trees
--         say
--     Says command bytes status text      the whole text that the command may have for these bytes
use Rattle.std.specs.Prelude.{◌≡◌, ℕ, ◌-◌, ◌<◌, ◌≤◌, List, length, drop, Some, Result, Ok, Err, ◌⊎◌}
use Rattle.go_points.specs.declared.Colour.{Colour}
use Rattle.target_game.specs.State.{GameProblem, start}
use Rattle.target_game.specs.Within.{decision}
use Rattle.target_game.specs.declared.within.Within.{Within}
use Rattle.target_game.specs.declared.within.Within.TheVariants as within
use Rattle.sgf_text.specs.Trees.{GameTree}
use Rattle.sgf_text.specs.Grammar.{Reads}
use Rattle.sgf_text.specs.Laws.{IsWithin}
use Rattle.tsumego_problem.specs.Values.{skip_white}
use Rattle.tsumego_problem.specs.Walk.{problem_within, history_limit}
use Rattle.tsumego_problem.specs.Refusals.{Refuses}
use Rattle.cert_check.specs.Verdict.{Verdict, accepted, rejected}
use Rattle.solution_tree.specs.Audit.{Fault, audit}
use Rattle.tsumego_words.specs.declared.command_line.Command.{Command}
use Rattle.tsumego_words.specs.declared.command_line.Command.TheVariants as command
use Rattle.run_parts.specs.declared.status.Status.{Status}
use Rattle.run_parts.specs.declared.status.Status.TheVariants.{Answered, Unanswered, Refused}
use Rattle.tsumego_replies.specs.Bounds.{white_limit}
use Rattle.tsumego_replies.specs.Claims.{HasVerdict}
use Rattle.tsumego_replies.specs.Solutions.{Solved, Unsolved}
use Rattle.tsumego_replies.specs.Texts.{line, wins_text, rejected_line_text, rejected_node_text, neither_text, limit_text, no_memory_text, no_read_text}

-- a status and the whole text with it
abbrev pub Answer : Type 0
Answer = Status × List ℕ

-- The bytes begin with a record that has this tree and this problem, and the record ends before the place n.
pub record IsRecord (bytes : List ℕ) (tree : GameTree) (n : ℕ) (q : GameProblem) : Type 0 where
  pub reads : Reads bytes tree n
  pub within : IsWithin tree n
  pub problem : problem_within (Some history_limit) tree ≡ Ok q

-- The bytes are refused; or they begin with a record, and the answer is that to its problem.
abbrev pub RefusedOr : (GameProblem → GameTree → ℕ → Status → List ℕ → Type 0) → List ℕ → Status → List ℕ → Type 0
RefusedOr Said bytes status text =
    ((refusal : List ℕ) × Refuses bytes refusal × (status ≡ Refused) × (text ≡ line refusal))
    ⊎ ((q : GameProblem) × (tree : GameTree) × (n : ℕ) × IsRecord bytes tree n q × Said q tree n status text)

-- ---- check

abbrev pub check_answer : ℕ → Verdict → Answer
check_answer n (accepted x) = (Answered, wins_text x)
check_answer n (rejected place why) = (Unanswered, rejected_line_text n place why)

-- how many bytes of white space are at the front
abbrev pub white_before : List ℕ → ℕ
white_before bytes = length bytes - length (skip_white bytes)

-- A record is followed by white space, no more than is allowed, and then by the claim. The answer is the verdict on the claim.
abbrev pub JudgesClaim : GameProblem → List ℕ → Status → List ℕ → Type 0
JudgesClaim q bytes status text = (white_before bytes ≤ white_limit) × ((v : Verdict) × HasVerdict q (skip_white bytes) v × ((status, text) ≡ check_answer q.game.size v))

-- A record is followed by more white space than is allowed.
abbrev pub PassesWhite : List ℕ → Type 0
PassesWhite bytes = (q : GameProblem) × (tree : GameTree) × (n : ℕ) × IsRecord bytes tree n q × (white_limit < white_before (drop n bytes))

-- a bound on what is read is passed
abbrev pub PassesBound : Command → List ℕ → Type 0
PassesBound command.Check bytes = PassesWhite bytes
PassesBound _ bytes = ⊥

-- ---- within

abbrev pub within_answer : Within → Answer
within_answer (within.Wins x) = (Answered, wins_text x)
within_answer within.Neither = (Answered, neither_text)
within_answer within.Limit = (Unanswered, limit_text)

-- ---- audit

abbrev pub audit_answer : ℕ → Result Colour Fault → Answer
audit_answer n (Ok x) = (Answered, wins_text x)
audit_answer n (Err fault) = (Unanswered, rejected_node_text n fault)

-- ---- all commands

abbrev pub Says : Command → List ℕ → Status → List ℕ → Type 0
Says command.Check bytes = RefusedOr (λ q tree n status text. JudgesClaim q (drop n bytes) status text) bytes
Says (command.Within turns nodes) bytes = RefusedOr (λ q tree n status text. (status, text) ≡ within_answer (decision (start q) turns nodes)) bytes
Says command.Audit bytes = RefusedOr (λ q tree n status text. (status, text) ≡ audit_answer q.game.size (audit q tree)) bytes
Says (command.Solve steps table proof lift) bytes =
    RefusedOr (λ q tree n status text. ((status ≡ Answered) × Solved proof lift q text) ⊎ ((status ≡ Unanswered) × Unsolved steps proof q text)) bytes
Says command.Gtp bytes = λ status text. ⊥

-- Memory was refused, or a read failed, or the input has no end in sight.
abbrev pub SaysFailure : List ℕ → Type 0
SaysFailure text = (text ≡ no_memory_text) ⊎ (text ≡ no_read_text)
