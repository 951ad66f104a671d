-- What the program prints (this project's own texts). Each ends with one line feed.
use Rattle.std.specs.Prelude.{ℕ, List, [], ◌∷◌, ◌++◌, codes, decimal}
use Rattle.go_points.specs.declared.Colour.{Colour}
use Rattle.go_points.specs.declared.Colour.TheVariants.{Black, White}
use Rattle.proof_cert.specs.Text.{vertex_text}
use Rattle.cert_check.specs.Body as claim
use Rattle.solution_tree.specs.Audit as audit
use Rattle.pn_search.specs.declared.verdict.Cause.{Cause}
use Rattle.pn_search.specs.declared.verdict.Cause.TheVariants as cause

abbrev pub line : List ℕ → List ℕ
line text = text ++ 10 ∷ []

abbrev pub wins_text : Colour → List ℕ
wins_text Black = line (codes "wins Black")
wins_text White = line (codes "wins White")

-- why a line of a claim on a board of n rows is refused
abbrev pub claim_fault_text : ℕ → claim.Why → List ℕ
claim_fault_text n claim.malformed = codes "C01 malformed"
claim_fault_text n claim.size_differs = codes "C02 size differs"
claim_fault_text n claim.root_without_liberty = codes "C03 root without liberty"
claim_fault_text n claim.not_won = codes "C04 not won"
claim_fault_text n claim.wrong_side = codes "C05 wrong side or after the end"
claim_fault_text n claim.turn_barred = codes "C06 turn barred"
claim_fault_text n claim.repeats_known = codes "C07 repeats a known position"
claim_fault_text n claim.not_listed = codes "C08 result not listed"
claim_fault_text n (claim.replies_differ due) = codes "C09 replies differ, due " ++ vertex_text n due
claim_fault_text n claim.lemma_not_lower = codes "C10 lemma number not lower"
claim_fault_text n claim.state_differs = codes "C11 state differs"
claim_fault_text n claim.listed_occurred = codes "C12 listed position has occurred"
claim_fault_text n claim.listed_not_passed_on = codes "C13 listed position not passed on"
claim_fault_text n claim.list_order = codes "C14 list order"
claim_fault_text n claim.limit = codes "C15 limit"
claim_fault_text n claim.text_after_end = codes "C16 text after the end"
claim_fault_text n claim.needed_not_occurred = codes "C19 needed position has not occurred"

abbrev pub rejected_line_text : ℕ → ℕ → claim.Why → List ℕ
rejected_line_text n place why = line (codes "rejected line " ++ decimal place ++ codes ": " ++ claim_fault_text n why)

-- why a node of a tree on a board of n rows is refused
abbrev pub audit_fault_text : ℕ → audit.Why → List ℕ
audit_fault_text n audit.no_turn = codes "A01 no turn"
audit_fault_text n audit.wrong_colour = codes "A02 wrong colour"
audit_fault_text n audit.turn_barred = codes "A03 turn barred"
audit_fault_text n (audit.reply_missing due) = codes "A04 reply missing " ++ vertex_text n due
audit_fault_text n audit.reply_twice = codes "A05 reply twice"
audit_fault_text n audit.not_won = codes "A06 not won"
audit_fault_text n audit.after_the_end = codes "A07 after the end"
audit_fault_text n audit.several_answers = codes "A08 several answers"

abbrev pub rejected_node_text : ℕ → audit.Fault → List ℕ
rejected_node_text n fault = line (codes "rejected node " ++ decimal fault.node ++ codes ": " ++ audit_fault_text n fault.why)

abbrev pub neither_text : List ℕ
neither_text = line (codes "neither")

abbrev pub limit_text : List ℕ
limit_text = line (codes "limit")

-- why a search ended without an answer, and after how many steps
abbrev pub search_cause_text : Cause → List ℕ
search_cause_text cause.Steps = codes "step budget"
search_cause_text cause.Memory = codes "memory"
search_cause_text cause.NotConfirmed = codes "not confirmed"
search_cause_text cause.Limit = codes "limit"

abbrev pub unknown_text : Cause → ℕ → List ℕ
unknown_text cause count = line (codes "unknown: " ++ search_cause_text cause ++ codes ", " ++ decimal count ++ codes " steps")

abbrev pub too_large_text : List ℕ
too_large_text = line (codes "unknown: tree too large")

abbrev pub no_memory_text : List ℕ
no_memory_text = line (codes "failed: memory")

abbrev pub no_read_text : List ℕ
no_read_text = line (codes "failed: read")
