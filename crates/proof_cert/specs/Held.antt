-- A source over a certificate: what is still to be given, and what one call of it gives.
--     Held      the board's size, the lines that are left (None for one that has no spelling), the number of the line or fault
--               that was answered last, and the fault, where one was answered
--     held_source_of z      before the first call
--     held_gives s r t      a call at s, which has not failed, gives r and leaves t
use Rattle.std.specs.Prelude.{◌≡◌, ℕ, ◌-◌, ◌^◌, List, [], ◌∷◌, ◌++◌, map, Option, Some, None, Result, Ok, Err, if◌then◌else◌, ⊤}
use Rattle.go_points.specs.declared.Turn.{Turn}
use Rattle.go_points.specs.Ply.{ply_of}
use Rattle.proof_cert.specs.Claim.{Claim}
use Rattle.proof_cert.specs.Lines.{Line, node_lines, branch_lines, lemmas_lines, lines_of, had_spelled, not_line, main_line, reply_line, end_line}
use Rattle.proof_cert.specs.Text.{is_spelled}
use Rattle.proof_cert.specs.Stage.{version_number}
use Rattle.proof_cert.specs.Certificate.{node_of, replies_of, lemma_of}
use Rattle.proof_cert.specs.declared.source.SourceFault.{SourceFault}
use Rattle.proof_cert.specs.declared.source.SourceFault.TheVariants.{Malformed, Memory, Read}
use Rattle.proof_cert.specs.declared.certificate.Node.{Node}
use Rattle.proof_cert.specs.declared.task.Task.{Task}
use Rattle.proof_cert.specs.declared.task.Task.TheVariants.{Lemmas, Had, Listed, Main, Tree, Replies, End}

-- the line, if it has a spelling
abbrev pub spelled_line : ℕ → Option Line → Option Line
spelled_line n l = (if is_spelled n l then l else None)

pub record Held : Type 0 where
  pub size : ℕ
  pub left : List (Option Line)
  pub number : ℕ
  pub fault : Option SourceFault

abbrev pub held_source_of : Claim → Held
held_source_of z = record { size = z.size; left = map (spelled_line z.size) (lines_of z); number = 0; fault = None }

-- A line; None after the last line, and from then on; a fault at a line that has no spelling, if memory is refused, and if there
-- are too many lines to count.
abbrev pub held_answer : Held → Result (Option Line) SourceFault → Held → Type 0
held_answer s (Ok None) t = (s.left ≡ []) × (t.left ≡ [])
held_answer s (Ok (Some l)) t = s.left ≡ Some l ∷ t.left
held_answer s (Err Malformed) t = s.left ≡ None ∷ t.left
held_answer s (Err Memory) t = ⊤
held_answer s (Err Read) t = s.number ≡ 2 ^ 64 - 2

abbrev pub held_gives : Held → Result (Option Line) SourceFault → Held → Type 0
held_gives s r t = (s.fault ≡ None) × held_answer s r t

-- the line of an answer to the other side's turn, and those of the tree below it
abbrev pub reply_lines : ℕ → Turn × Node → List (Option Line)
reply_lines n r = Some (reply_line (ply_of n r.0)) ∷ node_lines (node_of n r.1)

-- the lines of what is still to be given; the last is given first
abbrev pub task_lines : ℕ → Task → List (Option Line)
task_lines n (Lemmas version lemmas) = lemmas_lines (version_number version) (map (lemma_of n) lemmas.now)
task_lines n (Had version had) = map (had_spelled (version_number version)) had.now
task_lines n (Listed listed) = map (λ c. Some (not_line c)) listed.now
task_lines n (Main tree) = Some main_line ∷ node_lines (node_of n tree.now)
task_lines n (Tree tree) = node_lines (node_of n tree.now)
task_lines n (Replies replies) = branch_lines (replies_of n replies.now)
task_lines n End = Some end_line ∷ []

abbrev pub lines_left : ℕ → List Task → List (Option Line)
lines_left n [] = []
lines_left n (t ∷ ts) = lines_left n ts ++ task_lines n t
