-- What the calls that make a reply give. The clauses of a run do not rest on these definitions.
use Rattle.std.specs.Prelude.{◌≡◌, ℕ, ◌<◌, Bool, true, false, List, [], ◌∷◌, ◌++◌, length, Option, Some, None, ◌⊎◌, string_bytes}
use Rattle.std.specs.Io.KnownBytes.{Consumes, IsAtEnd}
use Rattle.sgf_text.specs.Bytes.{is_white}
use Rattle.sgf_text.specs.Followers.{byte_limit}
use Rattle.sgf_text.specs.Trees.{GameTree}
use Rattle.target_game.specs.State.{GameProblem}
use Rattle.tsumego_problem.specs.Refusals.{Refuses}
use Rattle.tsumego_replies.specs.declared.record.NoRecord.{NoRecord}
use Rattle.tsumego_replies.specs.declared.record.NoRecord.TheVariants.{Refused, Memory}
use Rattle.run_parts.specs.declared.status.Status.{Status}
use Rattle.run_parts.specs.declared.status.Status.TheVariants.{Unanswered}
use Rattle.proof_cert.specs.Text.{lines}
use Rattle.cert_check.specs.Body.{Why}
use Rattle.cert_check.specs.Stage.{why_value}
use Rattle.cert_check.specs.Verdict.{Verdict, verdict}
use Rattle.cert_check.specs.declared.reject.Reject.{Reject}
use Rattle.solution_tree.specs.Audit as audit
use Rattle.solution_tree.specs.Faults as fault
use Rattle.solution_tree.specs.declared.fault.AuditFault.{AuditFault}
use Rattle.tsumego_words.specs.declared.command_line.Command.{Command}
use Rattle.tsumego_words.specs.declared.command_line.Command.TheVariants.{Check}
use Rattle.tsumego_replies.specs.declared.reply.Response.{Response}
use Rattle.tsumego_replies.specs.declared.reply.Reply.{Reply}
use Rattle.tsumego_replies.specs.declared.reply.Response.TheVariants.{Text, Solution, TooLong}
use Rattle.tsumego_replies.specs.declared.input.White.{White}
use Rattle.tsumego_replies.specs.declared.input.White.TheVariants.{Before, End, TooMuch}
use Rattle.tsumego_replies.specs.Bounds.{white_limit}
use Rattle.tsumego_replies.specs.Solutions.{MayAnswer, Unsolved}
use Rattle.tsumego_replies.specs.Answers.{IsRecord, Says, check_answer, JudgesClaim, PassesBound, white_before}
use Rattle.proof_cert.specs.Streamed.{Tells}
use Rattle.tsumego_replies.specs.Texts.{line, rejected_line_text, rejected_node_text}

-- The bytes have no record, and this text says why; if memory was refused, nothing is said.
abbrev pub HasNoRecord : List ℕ → NoRecord → Type 0
HasNoRecord bytes (Refused text) = (refusal : List ℕ) × Refuses bytes refusal × (string_bytes text ≡ line refusal)
HasNoRecord bytes Memory = Unit {0}

-- what is told is this text; if memory was refused, nothing is told
abbrev pub IsTold : List ℕ → NoRecord → Type 0
IsTold wanted (Refused text) = string_bytes text ≡ wanted
IsTold wanted Memory = Unit {0}

-- the rejection is that of a verdict on a claim for a board of n rows, and this is said of it
abbrev pub IsRejectionOf : ℕ → Reject → Status → List ℕ → Type 0
IsRejectionOf n e status text = (why : Why) × (why_value n e.why ≡ Some why) × (status ≡ Unanswered) × (text ≡ rejected_line_text n e.place why)

-- the same for the fault of an audit
abbrev pub IsNodeRejectionOf : ℕ → AuditFault → Status → List ℕ → Type 0
IsNodeRejectionOf n e status text =
    (why : audit.Why) × (fault.why_value n e.why ≡ Some why) × (status ≡ Unanswered) × (text ≡ rejected_node_text n (record { node = e.node; why = why }))

-- a reply is a text that may be said; or a claim, and then what may be said for its problem; or that a bound is passed
abbrev pub IsReply : Command → List ℕ → Response → Type 0
IsReply command bytes (Text reply) = Says command bytes reply.status (string_bytes reply.text)
IsReply command bytes (Solution checked proof lift) = (status : Status) (text : List ℕ) → MayAnswer proof lift checked status text → Says command bytes status text
IsReply command bytes TooLong = PassesBound command bytes

-- The bytes that were read decide the record: there are more of them than a record may have, or the reader has ended.
abbrev pub Decides : List ℕ → Option (List ℕ) → Type 0
Decides front told = (byte_limit < length front) ⊎ IsAtEnd told

-- what may be said, or replied, of these bytes and those that the reader tells after them
abbrev pub SaysAfter : Command → List ℕ → Option (List ℕ) → Status → List ℕ → Type 0
SaysAfter command front told status text = (rest : List ℕ) × Tells told rest × Says command (front ++ rest) status text

abbrev pub IsReplyAfter : Command → List ℕ → Option (List ℕ) → Response → Type 0
IsReplyAfter command front told r = (rest : List ℕ) × Tells told rest × IsReply command (front ++ rest) r

-- no command except `check` asks for more after the front, and `check` only behind a record
abbrev pub RecordAfter : List ℕ → Option (List ℕ) → Type 0
RecordAfter front told = (rest : List ℕ) × Tells told rest × (q : GameProblem) × (tree : GameTree) × (n : ℕ) × IsRecord (front ++ rest) tree n q

abbrev pub AsksOn : Command → List ℕ → Option (List ℕ) → Option (List ℕ) → Type 0
AsksOn Check front old new = (new ≡ old) ⊎ RecordAfter front old
AsksOn _ front old new = new ≡ old

abbrev pub AllWhite : List ℕ → Type 0
AllWhite [] = Unit {0}
AllWhite (x ∷ bytes) = (is_white x ≡ true) × AllWhite bytes

-- After less white space than this there is a byte of another kind, or nothing, and the bytes up to there were given. Or there is
-- as much white space.
abbrev pub IsPastWhite : ℕ → Option (List ℕ) → Option (List ℕ) → White → Type 0
IsPastWhite room old new End = (white : List ℕ) × AllWhite white × (length white < room) × Consumes old new white × IsAtEnd new
IsPastWhite room old new TooMuch = (white : List ℕ) × AllWhite white × (length white ≡ room) × Consumes old new white
IsPastWhite room old new (Before b) = (white : List ℕ) × AllWhite white × (length white < room) × Consumes old new (white ++ b ∷ []) × (is_white b ≡ false)

-- the verdict on the lines that are read
abbrev pub claim_verdict : GameProblem → List ℕ → Verdict
claim_verdict q claim = verdict q (lines q.game.size claim)

-- the answer to a claim in these bytes and those that the reader tells after them, if it is judged
abbrev pub IsJudgedAfter : GameProblem → List ℕ → Option (List ℕ) → Status → List ℕ → Type 0
IsJudgedAfter q claim told status text = (rest : List ℕ) × Tells told rest × ((status, text) ≡ check_answer q.game.size (claim_verdict q (claim ++ rest)))

-- the same, if there is white space before the claim
abbrev pub IsCheckedAfter : GameProblem → List ℕ → Option (List ℕ) → Status → List ℕ → Type 0
IsCheckedAfter q behind told status text = (rest : List ℕ) × Tells told rest × JudgesClaim q (behind ++ rest) status text

-- there is more white space than is allowed before a claim, in these bytes and those that the reader tells after them
abbrev pub IsPastLimit : List ℕ → Option (List ℕ) → Type 0
IsPastLimit behind told = (rest : List ℕ) × Tells told rest × (white_limit < white_before (behind ++ rest))

-- a claim after white space is judged; or there is too much white space
abbrev pub IsJudged : GameProblem → List ℕ → Option (List ℕ) → Option Reply → Type 0
IsJudged q behind told (Some r) = IsCheckedAfter q behind told r.status (string_bytes r.text)
IsJudged q behind told None = IsPastLimit behind told

-- this is said of it, or that a bound is passed
abbrev pub IsSaidAfter : Command → List ℕ → Option (List ℕ) → Option Reply → Type 0
IsSaidAfter command front told (Some r) = SaysAfter command front told r.status (string_bytes r.text)
IsSaidAfter command front told None = (rest : List ℕ) × Tells told rest × PassesBound command (front ++ rest)

-- a search of the problem has this reply
abbrev pub IsSearched : ℕ → Bool → Bool → GameProblem → Response → Type 0
IsSearched budget proof lift q (Text reply) = (reply.status ≡ Unanswered) × Unsolved budget proof q (string_bytes reply.text)
IsSearched budget proof lift q (Solution checked as_proof as_lifted) = (checked.problem ≡ q) × (as_proof ≡ proof) × (as_lifted ≡ lift)
IsSearched budget proof lift q TooLong = ⊥
