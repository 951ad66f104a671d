-- What is left of a text that was written, and what a claim that was found lets be said.
use Rattle.tsumego.proofs.Common.{◌≡◌, ℕ, ◌<◌, ◌≤◌, Bool, true, false, List, ◌++◌, length, Option, Some, None, Result, Ok, Err, IsTrue, inl, inr, refl, sym, ◌∙◌, ap, subst, ◌⊎◌, MAX_SIZE, GameProblem, start, GameTree, is_tree, tree_text, IsProblem, canonical, solution, claim_of, lines, text, verdict, accepted, expand, Command, is_session, Status, Unanswered, Failed, line, no_memory_text, no_read_text, too_large_text, SolvedBy, MayAnswer, Says, SaysFailure, Tells, has_verdict, one_verdict, Outcome, RanOn, IsSolutionOf, Writes}
use Rattle.std.proofs.Common.{IsSome}
use Rattle.std.specs.Prelude.{IsSomeAnd, is_err, OnOk}
use Rattle.sgf_text.specs.Laws.{WrittenReads}
use Rattle.tsumego_problem.specs.Walk.{problem_of, problem_on, problem_node, is_go, board_size, root_of}
use Rattle.tsumego_problem.specs.Laws.{CanonicalReads, SolutionReads}
use Rattle.proof_cert.specs.Claim.{Claim, IsWithinLimits}
use Rattle.proof_cert.specs.Text.{pieces, OneClaimOfText}
use Rattle.cert_check.specs.Checked.{CheckedClaim, IsChecked}
use Rattle.cert_check.specs.Lift.{IsLifted}
use Rattle.cert_check.specs.Laws.{AcceptsValidTexts, ValidClaimsAnswer}
use Rattle.solution_tree.specs.Laws.{AuditIsExact, ExpansionsAscend}
use Rattle.tsumego_replies.specs.Solutions.{IsAccepted, IsProofBy, IsWritten}
use Rattle.tsumego_replies.proofs.Claims.{are_lines}
use Rattle.tsumego.specs.Outcome.{Saying, Leaves, HasLeftOn}
use Rattle.tsumego.proofs.Running.{explained, may_say}

-- WHAT IS LEFT

module _ (Said : Saying) (fails : Type 0) (old new : Option (List ℕ)) (text : List ℕ) where
  pub left_said : (status result : Status) → Said status text → (status ≡ Failed → ⊥) → Writes fails old new text status result → HasLeftOn Said fails result old new
  left_said status result said whole (inl (same, taken)) = (text, taken, inl (subst (λ s. Said s text) (sym same) said), λ failed. absurd (whole (sym same ∙ failed)))
  left_said status result said whole (inr (failed, fault, (part, rest, all, taken))) = (part, taken, inr (failed, inr (rest, inl (status, subst (Said status) all said))), λ e. inr (inr fault))

  pub left_no_memory : (result : Status) → text ≡ no_memory_text → Writes fails old new text Failed result → HasLeftOn Said fails result old new
  left_no_memory result is (inl (same, taken)) = (text, taken, inr (same, inl (inl is)), λ e. inl is)
  left_no_memory result is (inr (failed, fault, (part, rest, all, taken))) = (part, taken, inr (failed, inr (rest, inr (subst SaysFailure all (inl is)))), λ e. inr (inr fault))

-- what may be said of a claim is no failure
pub answers_no_failure : (proof lift : Bool) (k : CheckedClaim) (status : Status) (text : List ℕ) → MayAnswer proof lift k status text → status ≡ Failed → ⊥
answers_no_failure true lift k status text (answered, by_claim) failed = absurd (cc (sym answered ∙ failed))
answers_no_failure false lift k status text (inl (answered, few, solved)) failed = absurd (cc (sym answered ∙ failed))
answers_no_failure false lift k status text (inr (unanswered, large, is)) failed = absurd (cc (sym unanswered ∙ failed))

-- WHAT MAY BE SAID

-- a checked claim is accepted by its text
module _ (accepts : AcceptsValidTexts) (q : GameProblem) (low : 1 ≤ q.game.size) (high : q.game.size ≤ MAX_SIZE) (z : Claim) (checked : IsChecked q z) where
  pub with_text : (bytes : List ℕ) → text z ≡ Some bytes → IsAccepted q z bytes
  with_text bytes spelled = (spelled, (lines q.game.size bytes, are_lines q.game.size (pieces bytes), (accepts q bytes z.winner low high).1 (z, spelled, checked.limits, checked.valid, refl)))

  pub has_text : (bytes : List ℕ) × IsAccepted q z bytes
  has_text = go (text z) refl checked.valid.spelled
    where
      go : (o : Option (List ℕ)) → text z ≡ o → IsSome o → (bytes : List ℕ) × IsAccepted q z bytes
      go (Some bytes) e some = (bytes, with_text bytes e)
      go None e none = absurd (cc none)

  -- where it would pass a limit as one lemma, that is not accepted
  pub never_accepted : OneClaimOfText → ((y : Claim) → IsLifted q z y → IsWithinLimits y → ⊥) → (y : Claim) (bytes : List ℕ) → IsLifted q z y → IsAccepted q y bytes → ⊥
  never_accepted one none y bytes lifted (spelled, judged) =
      let (w, written, limits, valid, same) = (accepts q bytes y.winner low high).0 (one_verdict q bytes (verdict q (lines q.game.size bytes)) (accepted y.winner) (has_verdict q bytes) judged) in
      none y lifted (subst IsWithinLimits (one w y bytes (valid.size ∙ sym (lifted.size ∙ checked.valid.size)) written spelled) limits)

-- a tree that has a problem has a problem node
pub has_node : (tree : GameTree) (q : GameProblem) → problem_of tree ≡ Ok q → IsSome (problem_node tree)
has_node tree q h = go (is_go (root_of tree)) (board_size (root_of tree)) (problem_node tree) h
  where
    go : (b : Bool) (s k : Option ℕ) → problem_on None tree b s k ≡ Ok q → IsSome k
    go false s k h = absurd (cc h)
    go true None k h = absurd (cc h)
    go true (Some n) None h = absurd (cc h)
    go true (Some n) (Some k) h = refl

module _ (k : CheckedClaim) (checked : IsChecked k.problem (claim_of k.certificate)) where
  pub tree_solves : ExpansionsAscend → ValidClaimsAnswer → SolutionReads → AuditIsExact → WrittenReads → IsProblem k.problem → k.problem.place < length k.problem.history → (tree : GameTree) → IsTrue (is_tree tree) → IsSolutionOf k (Some tree)
      → SolvedBy k.problem (claim_of k.certificate).winner (expand (claim_of k.certificate) (start k.problem)) (line (tree_text tree))
  tree_solves ascend answer read exact written kept place tree whole (few, is) =
      let q = k.problem in
      let z = claim_of k.certificate in
      let a = expand z (start q) in
      let s = solution q z.winner a in
      let (problem, below) = read q z.winner a kept (answer q z place checked.valid) in
      let stands : IsTrue (is_tree s) = subst (λ t. IsTrue (is_tree t)) is whole in
      (ascend q z checked.valid, record { reads = λ rest. written s rest stands; problem = problem }, (exact q s z.winner stands (has_node s q problem)).1 below, ap (λ t. line (tree_text t)) is)

  pub too_large : AcceptsValidTexts → 1 ≤ k.problem.game.size → k.problem.game.size ≤ MAX_SIZE → (lift : Bool) → IsSolutionOf k None → MayAnswer false lift k Unanswered too_large_text
  too_large accepts low high lift large = let (bytes, is) = has_text accepts k.problem low high (claim_of k.certificate) checked in inr (refl, (bytes, is, large), refl)

  -- what is written of the claim, after the record's text
  pub claim_solves : AcceptsValidTexts → CanonicalReads → WrittenReads → IsProblem k.problem → 1 ≤ k.problem.game.size → k.problem.game.size ≤ MAX_SIZE → (tree : GameTree) → IsTrue (is_tree tree) → tree ≡ canonical k.problem
      → (y : Claim) → IsChecked k.problem y → (lift : Bool) → IsWritten lift k.problem (claim_of k.certificate) y
      → (bytes : List ℕ) → text y ≡ Some bytes → IsProofBy lift k.problem (claim_of k.certificate) (line (tree_text tree) ++ bytes)
  claim_solves accepts read reads kept low high tree whole is y valid lift how bytes spelled =
      let q = k.problem in
      record {
        found = has_text accepts q low high (claim_of k.certificate) checked;
        claim = y;
        written = how;
        spelling = bytes;
        judged = with_text accepts q low high y valid bytes spelled;
        kept = record { reads = λ rest. reads (canonical q) rest (subst (λ t. IsTrue (is_tree t)) is whole); problem = read q kept };
        whole = ap (λ t. line (tree_text t) ++ bytes) is;
      }

-- What is left of it is left by the run.
pub ran_left : (command : Command) (told : Option (List ℕ)) (read : List ℕ → Type 0) (fails : Type 0) (bytes : List ℕ) (k : CheckedClaim) (proof lift : Bool) (result : Status) (old new : Option (List ℕ)) → is_session command ≡ false → Tells told bytes
    → ((status : Status) (text : List ℕ) → MayAnswer proof lift k status text → Says command bytes status text) → HasLeftOn (MayAnswer proof lift k) fails result old new → RanOn (Some command) told read fails result old new
ran_left command told read fails bytes k proof lift result old new whole tells says (written, taken, left, why) = (bytes, written, tells, taken, go left, explained (Some command) (λ failed. because (why failed)))
  where
    go : Leaves (MayAnswer proof lift k) result written → Outcome (Some command) bytes result written
    go (inl may) = inl (may_say command bytes result written whole (says result written may))
    go (inr (failed, inl failure)) = inr (failed, inl failure)
    go (inr (failed, inr (rest, inl (status, may)))) = inr (failed, inr (rest, inl (status, may_say command bytes status (written ++ rest) whole (says status (written ++ rest) may))))
    go (inr (failed, inr (rest, inr failure))) = inr (failed, inr (rest, inr failure))

    because : (written ≡ no_memory_text) ⊎ ((⊥ × (written ≡ no_read_text)) ⊎ fails) → (written ≡ no_memory_text) ⊎ ((read bytes × (written ≡ no_read_text)) ⊎ fails)
    because (inl is) = inl is
    because (inr (inl (none, is))) = absurd none
    because (inr (inr fault)) = inr (inr fault)

-- A claim's text after the record's.
pub claim_behind : (Said : Saying) (status : Status) (front old new : List ℕ) (spelled : Option (List ℕ)) → ((bytes : List ℕ) → spelled ≡ Some bytes → Said status (front ++ bytes)) → old ≡ front
    → IsSomeAnd spelled (λ bytes. new ≡ old ++ bytes) → Said status new
claim_behind Said status front old new None says is all = absurd all
claim_behind Said status front old new (Some bytes) says is all = subst (Said status) (sym (all ∙ ap (λ l. l ++ bytes) is)) (says bytes refl)

pub front_written : {E : Type 0} (r : Result (Unit {0}) E) (P : Type 0) → false ≡ is_err r → OnOk r P → P
front_written (Ok x) P e h = h
front_written (Err x) P e h = absurd (cc e)
