-- What a record that is read, or is not, says of the bytes.
use Rattle.tsumego_replies.proofs.Common.{◌≡◌, ◌≢◌, ℕ, ◌-◌, List, length, take, drop, Err, Some, inr, refl, arith, GameTree, problem_refusal, history_limit, NoRecord, line, HasNoRecord}
use Rattle.std.proofs.lemmas.List.{length-drop, take_all}
use Rattle.sgf_text.specs.Grammar.{Reads}
use Rattle.sgf_text.specs.Laws.{IsWithin}
use Rattle.tsumego_problem.specs.Walk.{problem_within}
use Rattle.tsumego_problem.specs.declared.fault.ProblemFault.{ProblemFault}
use Rattle.tsumego_problem.specs.declared.fault.ProblemFault.TheVariants as faults
use Rattle.tsumego_replies.specs.declared.record.NoRecord.TheVariants as no
use Rattle.tsumego_replies.specs.Replies.{IsTold}

-- all that stands after a place
pub all_behind : (n : ℕ) (bytes : List ℕ) → take (length bytes - n) (drop n bytes) ≡ drop n bytes
all_behind n bytes = take_all (length bytes - n) (drop n bytes) (omega (arith, length-drop n bytes))

pub has_no_problem : (bytes : List ℕ) (tree : GameTree) (n : ℕ) (fault : ProblemFault) (r : NoRecord) → Reads bytes tree n → IsWithin tree n → (fault ≢ faults.Memory → problem_within (Some history_limit) tree ≡ Err fault)
    → IsTold (line (problem_refusal fault)) r → (fault ≡ faults.Memory → r ≡ no.Memory) → HasNoRecord bytes r
has_no_problem bytes tree n fault (no.Refused text) reads within h told memory = (problem_refusal fault, inr (tree, n, fault, reads, within, h (λ e. absurd (cc (memory e))), refl), told)
has_no_problem bytes tree n fault no.Memory reads within h told memory = tt
