-- What the outcome of a run says about the game.
use Rattle.std.specs.Prelude.{◌≡◌, ℕ, Bool, true, false, List, [], ◌∷◌, ◌++◌, codes, drop, IsTrue, Some, Ok, ◌⊎◌}
use Rattle.go_points.specs.declared.Colour.{Colour}
use Rattle.go_points.specs.Grid.{opponent_of}
use Rattle.go_points.specs.Ply.{Ply}
use Rattle.target_game.specs.State.{GameState, GameProblem, start}
use Rattle.target_game.specs.Legal.{legal}
use Rattle.target_game.specs.Next.{next}
use Rattle.target_game.specs.Wins.{Wins, wins}
use Rattle.target_game.specs.Answers.{AnswerTree}
use Rattle.sgf_text.specs.Trees.{GameTree}
use Rattle.sgf_text.specs.Grammar.{Reads}
use Rattle.sgf_text.specs.Text.{tree_text}
use Rattle.tsumego_problem.specs.Walk.{problem_of}
use Rattle.tsumego_problem.specs.StandsFor.{StandsFor}
use Rattle.tsumego_problem.specs.Below.{Below}
use Rattle.tsumego_problem.specs.Canonical.{solution}
use Rattle.tsumego_words.specs.declared.command_line.Command.TheVariants as command
use Rattle.run_parts.specs.declared.status.Status.TheVariants.{Answered}
use Rattle.cert_check.specs.Verdict.{Verdict, accepted}
use Rattle.gtp_core.specs.Lines.{asks, raw_lines, request_of}
use Rattle.gtp_core.specs.Words.{colour_named, success, turn_text}
use Rattle.gtp_core.specs.Session.{GtpSession, problem_at, size_of}
use Rattle.gtp_core.specs.Serving.{Serves, reply, last_reply}
use Rattle.gtp_core.specs.Runs.{first_session}
use Rattle.tsumego_replies.specs.Texts.{line, wins_text}
use Rattle.tsumego_replies.specs.Claims.{HasVerdict}
use Rattle.tsumego.specs.Outcome.{Outcome}

-- The bytes begin with a record, and this side wins its problem, with all its earlier positions.
pub record SideWins (bytes : List ℕ) (q : GameProblem) (x : Colour) : Type 0 where
  pub tree : GameTree
  pub end : ℕ
  pub reads : Reads bytes tree end
  pub problem : problem_of tree ≡ Ok q
  pub wins : Wins x (start q)

-- The bytes begin with a record, and this side wins the state that the record stands for, with all its earlier positions. This is
-- what a reader has to believe, without knowing which records are refused.
pub record HasWinner (bytes : List ℕ) (x : Colour) : Type 0 where
  pub tree : GameTree
  pub end : ℕ
  pub state : GameState
  pub reads : Reads bytes tree end
  pub stands : StandsFor tree state
  pub wins : Wins x state

-- If a side wins the problem of a record, it wins what the record stands for.
abbrev pub WinnerIsTrue : Type 0
WinnerIsTrue = (bytes : List ℕ) (q : GameProblem) (x : Colour) → SideWins bytes q x → HasWinner bytes x

-- If `check` answers, it names a side, and that side wins the problem of the record that was read.
abbrev pub CheckIsTrue : Type 0
CheckIsTrue = (bytes written : List ℕ) → Outcome (Some command.Check) bytes Answered written →
    (q : GameProblem) × (x : Colour) × (written ≡ wins_text x) × SideWins bytes q x

-- The bytes of a claim have a verdict, and only one, since no two lines have one spelling.
abbrev pub OneVerdict : Type 0
OneVerdict = (q : GameProblem) (bytes : List ℕ) → (v : Verdict) × HasVerdict q bytes v × ((w : Verdict) → HasVerdict q bytes w → v ≡ w)

-- If `within` names a side, that side can force a win of the record's problem within the given number of turns.
abbrev pub WithinIsTrue : Type 0
WithinIsTrue = (turns nodes : ℕ) (bytes : List ℕ) (x : Colour) → Outcome (Some (command.Within turns nodes)) bytes Answered (wins_text x) →
    (q : GameProblem) × SideWins bytes q x × IsTrue (wins x (start q) turns)

-- The bytes begin with a record, and the nodes below its problem node are an answer tree of this side.
pub record HasAnswers (bytes : List ℕ) (q : GameProblem) (x : Colour) : Type 0 where
  pub tree : GameTree
  pub end : ℕ
  pub reads : Reads bytes tree end
  pub problem : problem_of tree ≡ Ok q
  pub below : Below tree x (start q)

-- If `audit` answers, it names a side, that side wins the problem of the record that was read, and the record shows how.
abbrev pub AuditIsTrue : Type 0
AuditIsTrue = (bytes written : List ℕ) → Outcome (Some command.Audit) bytes Answered written →
    (q : GameProblem) × (x : Colour) × (written ≡ wins_text x) × SideWins bytes q x × HasAnswers bytes q x

-- The bytes are the solution record of the problem for this side, which names it: its problem node says `C[Black wins]` or `C[White wins]`.
abbrev pub NamesWinner : List ℕ → GameProblem → Colour → Type 0
NamesWinner bytes q x = (a : AnswerTree) × (bytes ≡ line (tree_text (solution q x a)))

-- If `solve` writes a record, it names a side, and that side wins the problem of the record that was read. What is written holds
-- the same problem, with a legal answer of that side to every legal reply.
abbrev pub SolveIsTrue : Type 0
SolveIsTrue = (steps table : ℕ) (lift : Bool) (bytes written : List ℕ) → Outcome (Some (command.Solve steps table false lift)) bytes Answered written →
    (q : GameProblem) × (x : Colour) × NamesWinner written q x × SideWins bytes q x × HasAnswers written q x

-- The bytes are a record of the problem, a line feed, and a claim that names this side and is accepted for the problem.
pub record HasClaim (bytes : List ℕ) (q : GameProblem) (x : Colour) : Type 0 where
  pub tree : GameTree
  pub end : ℕ
  pub claim : List ℕ
  pub reads : Reads bytes tree end
  pub problem : problem_of tree ≡ Ok q
  pub behind : drop end bytes ≡ 10 ∷ claim
  pub judged : HasVerdict q claim (accepted x)

-- If `solve --proof` writes a claim, some side wins the problem of the record that was read, and what is written holds the same
-- problem with an accepted claim that names that side.
abbrev pub ProofIsTrue : Type 0
ProofIsTrue = (steps table : ℕ) (lift : Bool) (bytes written : List ℕ) → Outcome (Some (command.Solve steps table true lift)) bytes Answered written →
    (q : GameProblem) × (x : Colour) × SideWins bytes q x × HasClaim written q x

-- What a session said about the colour k is true: `win V` names a legal turn after which k wins the session's problem with k to
-- move, and `loss` says that the other side wins it.
pub record IsTrueOf (s : GtpSession) (k : Colour) (told : List ℕ) : Type 0 where
  pub wins : (v : List ℕ) → told ≡ codes "win " ++ v → (q : GameProblem) × (t : Ply) × (problem_at s k ≡ Some q) × (v ≡ turn_text (size_of s) t) × IsTrue (legal (start q) t) × Wins k (next (start q) t)
  pub losses : told ≡ codes "loss" → (q : GameProblem) × (problem_at s k ≡ Some q) × Wins (opponent_of k) (start q)

-- If the line asks who wins with a colour to move, and the reply is given with the line's id, the reply is true.
abbrev pub AnswersTruly : GtpSession → List ℕ → List ℕ → Type 0
AnswersTruly s line written = (id word told : List ℕ) (words : List (List ℕ)) (k : Colour) → request_of line ≡ asks id (codes "tsu-solve" ∷ word ∷ words) → colour_named word ≡ Some k
    → written ≡ success id told → IsTrueOf s k told

-- The replies of a session, line by line, each of which is true; after a line that ends the session the others are ignored.
abbrev pub AllTrue : GtpSession → List (List ℕ) → List ℕ → Type 0
AllTrue s [] written = written ≡ []
AllTrue s (line ∷ lines) written =
    ((bytes rest : List ℕ) × (new : GtpSession) × Serves s line (reply bytes) new × AnswersTruly s line bytes × (written ≡ bytes ++ rest) × AllTrue new lines rest)
    ⊎ ((new : GtpSession) × Serves s line (last_reply written) new)

-- When `gtp` has ended, its output is such replies.
abbrev pub GtpIsTrue : Type 0
GtpIsTrue = (bytes written : List ℕ) → Outcome (Some command.Gtp) bytes Answered written → AllTrue first_session (raw_lines bytes) written
