-- Texts that are put together from parts.
use Rattle.tsumego_replies.proofs.Common.{◌≡◌, ◌≢◌, ℕ, ◌+◌, ◌≤◌, true, List, [], ◌∷◌, ◌++◌, Some, refl, sym, ◌∙◌, ap, ap₂, arith, codes, decimal, problem_refusal, Why, why_value, line, rejected_line_text, rejected_node_text, unknown_text}
use Rattle.std.proofs.Common.{◌*◌, ◌/◌, ◌%◌, cond}
use Rattle.std.proofs.lemmas.Bool.{false_from_ne_true}
use Rattle.std.proofs.lemmas.Nat.{div-mul-add, mod-mul-add}
use Rattle.go_points.specs.declared.Turn.TheVariants.{At}
use Rattle.go_points.specs.Place.{Place, IsOn, on_board, number_of}
use Rattle.go_turns.proofs.Turns.{on_from, is_on_from}
use Rattle.tsumego_problem.proofs.Rectangles.{place_back}
use Rattle.proof_cert.specs.Text.{vertex_text}
use Rattle.std.proofs.lemmas.List.{append_assoc}
use Rattle.go_points.specs.Ply.{ply_of, move}
use Rattle.tsumego_problem.specs.Refusals.{cause_text}
use Rattle.tsumego_problem.specs.declared.fault.TurnFaultCause.{TurnFaultCause}
use Rattle.tsumego_problem.specs.declared.fault.ProblemFault.TheVariants as faults
use Rattle.cert_check.specs.declared.reject.Why as stop
use Rattle.cert_check.specs.declared.reject.Why.TheVariants as stops
use Rattle.cert_check.specs.Body as claim
use Rattle.solution_tree.specs.declared.fault.AuditWhy as fault
use Rattle.solution_tree.specs.declared.fault.AuditWhy.TheVariants as node_faults
use Rattle.solution_tree.specs.Audit as tree
use Rattle.solution_tree.specs.Faults as node
use Rattle.pn_search.specs.declared.verdict.Cause.{Cause}
use Rattle.tsumego_replies.specs.Texts.{claim_fault_text, audit_fault_text, search_cause_text}

pub illegal_phrase : (k : ℕ) (cause : TurnFaultCause) (said : List ℕ) → said ≡ cause_text cause
    → codes "refused: problem 9 illegal turn at node " ++ (decimal k ++ (said ++ 10 ∷ [])) ≡ line (problem_refusal (faults.IllegalTurn k cause))
illegal_phrase k cause said e =
    ap (λ t. codes "refused: problem 9 illegal turn at node " ++ t) (sym (append_assoc (decimal k) said (10 ∷ [])))
    ∙ ap (λ t. codes "refused: problem 9 illegal turn at node " ++ (decimal k ++ t ++ 10 ∷ [])) e

pub rejected_phrase : (n place : ℕ) (why : Why) (said : List ℕ) → said ≡ claim_fault_text n why
    → codes "rejected line " ++ (decimal place ++ (codes ": " ++ (said ++ 10 ∷ []))) ≡ rejected_line_text n place why
rejected_phrase n place why said e =
    ap (λ t. codes "rejected line " ++ (decimal place ++ (codes ": " ++ (t ++ 10 ∷ [])))) e
    ∙ ap (λ t. codes "rejected line " ++ t) (sym (append_assoc (decimal place) (codes ": " ++ claim_fault_text n why) (10 ∷ []))
    ∙ ap (λ t. t ++ 10 ∷ []) (sym (append_assoc (decimal place) (codes ": ") (claim_fault_text n why))))

pub rejected_node_phrase : (n number : ℕ) (why : tree.Why) (said : List ℕ) → said ≡ audit_fault_text n why
    → codes "rejected node " ++ (decimal number ++ (codes ": " ++ (said ++ 10 ∷ []))) ≡ rejected_node_text n (record { node = number; why = why })
rejected_node_phrase n number why said e =
    ap (λ t. codes "rejected node " ++ (decimal number ++ (codes ": " ++ (t ++ 10 ∷ [])))) e
    ∙ ap (λ t. codes "rejected node " ++ t) (sym (append_assoc (decimal number) (codes ": " ++ audit_fault_text n why) (10 ∷ []))
    ∙ ap (λ t. t ++ 10 ∷ []) (sym (append_assoc (decimal number) (codes ": ") (audit_fault_text n why))))

-- what is no want of memory is a fault of the tree
pub node_why_given : (n : ℕ) (w : fault.AuditWhy) → w ≢ node_faults.Memory → (why : tree.Why) × (node.why_value n w ≡ Some why)
node_why_given n node_faults.NoTurn m = (tree.no_turn, refl)
node_why_given n node_faults.WrongColour m = (tree.wrong_colour, refl)
node_why_given n node_faults.TurnBarred m = (tree.turn_barred, refl)
node_why_given n (node_faults.ReplyMissing due) m = (tree.reply_missing (ply_of n due), refl)
node_why_given n node_faults.ReplyTwice m = (tree.reply_twice, refl)
node_why_given n node_faults.NotWon m = (tree.not_won, refl)
node_why_given n node_faults.AfterTheEnd m = (tree.after_the_end, refl)
node_why_given n node_faults.SeveralAnswers m = (tree.several_answers, refl)
node_why_given n node_faults.Memory m = absurd (m refl)

-- what is no want of memory and no failed read is a fault of the claim
pub why_given : (n : ℕ) (w : stop.Why) → w ≢ stops.Memory → w ≢ stops.Read → (why : Why) × (why_value n w ≡ Some why)
why_given n stops.Malformed m r = (claim.malformed, refl)
why_given n stops.SizeDiffers m r = (claim.size_differs, refl)
why_given n stops.RootWithoutLiberty m r = (claim.root_without_liberty, refl)
why_given n stops.NotWon m r = (claim.not_won, refl)
why_given n stops.WrongSide m r = (claim.wrong_side, refl)
why_given n stops.TurnBarred m r = (claim.turn_barred, refl)
why_given n stops.RepeatsKnown m r = (claim.repeats_known, refl)
why_given n stops.NotListed m r = (claim.not_listed, refl)
why_given n (stops.RepliesDiffer due) m r = (claim.replies_differ (ply_of n due), refl)
why_given n stops.LemmaNotLower m r = (claim.lemma_not_lower, refl)
why_given n stops.StateDiffers m r = (claim.state_differs, refl)
why_given n stops.NeededNotOccurred m r = (claim.needed_not_occurred, refl)
why_given n stops.ListedOccurred m r = (claim.listed_occurred, refl)
why_given n stops.ListedNotPassedOn m r = (claim.listed_not_passed_on, refl)
why_given n stops.ListOrder m r = (claim.list_order, refl)
why_given n stops.Limit m r = (claim.limit, refl)
why_given n stops.TextAfterEnd m r = (claim.text_after_end, refl)
why_given n stops.Memory m r = absurd (m refl)
why_given n stops.Read m r = absurd (r refl)

-- the letters of a point of the board, and of one that it does not hold
pub letters_on : (n : ℕ) (p : Place) → IsOn n p → (97 + p.column) ∷ (97 + p.row) ∷ [] ≡ vertex_text n (ply_of n (At p))
letters_on n p on =
    let here : on_board n p ≡ true = on_from n p on in
    ap (λ q. (97 + q.column) ∷ (97 + q.row) ∷ []) (sym (place_back n p on))
    ∙ sym (ap (λ b. vertex_text n (move (cond b (number_of n p) (n * n)))) here)

pub letters_off : (n : ℕ) (p : Place) → 1 ≤ n → (IsOn n p → ⊥) → 97 ∷ (97 + n) ∷ [] ≡ vertex_text n (ply_of n (At p))
letters_off n p some off =
    let whole : n * n ≡ n * n + 0 = omega arith in
    let row : n ≡ n * n / n = sym (ap (λ x. x / n) whole ∙ div-mul-add n n 0 (omega (arith, some))) in
    let column : 0 ≡ n * n % n = sym (ap (λ x. x % n) whole ∙ mod-mul-add n n 0 (omega (arith, some))) in
    ap₂ (λ a b. (97 + a) ∷ (97 + b) ∷ []) column row
    ∙ sym (ap (λ b. vertex_text n (move (cond b (number_of n p) (n * n)))) (false_from_ne_true (on_board n p) (λ e. off (is_on_from n p e))))

pub unknown_phrase : (cause : Cause) (steps : ℕ) (said : List ℕ) → said ≡ search_cause_text cause
    → codes "unknown: " ++ (said ++ (codes ", " ++ (decimal steps ++ (codes " steps" ++ 10 ∷ [])))) ≡ unknown_text cause steps
unknown_phrase cause steps said e =
    ap (λ t. codes "unknown: " ++ (t ++ (codes ", " ++ (decimal steps ++ (codes " steps" ++ 10 ∷ []))))) e
    ∙ ap (λ t. codes "unknown: " ++ t) (sym (append_assoc (search_cause_text cause ++ codes ", " ++ decimal steps) (codes " steps") (10 ∷ [])
    ∙ append_assoc (search_cause_text cause ++ codes ", ") (decimal steps) (codes " steps" ++ 10 ∷ [])
    ∙ append_assoc (search_cause_text cause) (codes ", ") (decimal steps ++ (codes " steps" ++ 10 ∷ []))))
