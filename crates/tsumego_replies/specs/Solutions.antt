-- What is said of a problem for which a search was made.
--     IsAccepted q z text      `check` accepts the claim z, which has this text
--     IsWritten lift q z y      the claim y is what is written of the claim z that was found
--     SolvedBy q x a text      the solution record of this answer tree
--     Solved proof lift q text      a solution record; or, as a proof, the canonical record and a claim
--     MayAnswer proof lift k status text      what is said if the search has found the claim k
--     Unsolved budget proof q text      the search has found none, or its answer tree is not written
use Rattle.std.specs.Prelude.{◌≡◌, ◌≢◌, ℕ, ◌<◌, ◌≤◌, Bool, true, false, List, [], ◌++◌, length, Some, IsTrue, Ok, ◌⊎◌}
use Rattle.go_points.specs.declared.Colour.{Colour}
use Rattle.target_game.specs.State.{GameProblem, start}
use Rattle.target_game.specs.Answers.{AnswerTree, answer_size}
use Rattle.sgf_text.specs.Trees.{GameTree}
use Rattle.sgf_text.specs.Grammar.{Reads}
use Rattle.sgf_text.specs.Text.{tree_text}
use Rattle.tsumego_problem.specs.Walk.{problem_of}
use Rattle.tsumego_problem.specs.Canonical.{canonical, solution, ascends}
use Rattle.proof_cert.specs.Certificate.{claim_of}
use Rattle.proof_cert.specs.Claim.{Claim}
use Rattle.proof_cert.specs.Text.{text as claim_text}
use Rattle.cert_check.specs.Verdict.{accepted}
use Rattle.cert_check.specs.Checked.{CheckedClaim}
use Rattle.cert_check.specs.Lift.{IsLifted}
use Rattle.cert_check.specs.Expand.{expand}
use Rattle.solution_tree.specs.Audit.{audit}
use Rattle.pn_search.specs.Search.{IsHard}
use Rattle.pn_search.specs.declared.verdict.Cause.{Cause}
use Rattle.pn_search.specs.declared.verdict.Cause.TheVariants.{Steps, Memory}
use Rattle.run_parts.specs.declared.status.Status.{Status}
use Rattle.run_parts.specs.declared.status.Status.TheVariants.{Answered, Unanswered}
use Rattle.tsumego_replies.specs.Texts.{line, unknown_text, too_large_text}
use Rattle.tsumego_replies.specs.Claims.{HasVerdict}

-- The tree's text, whatever follows it, reads as the tree, and the tree has this same problem, the order of the history included.
pub record IsRecordOf (q : GameProblem) (tree : GameTree) : Type 0 where
  pub reads : (rest : List ℕ) → Reads (tree_text tree ++ rest) tree (length (tree_text tree))
  pub problem : problem_of tree ≡ Ok q

-- The claim has this text, and `check` accepts it for the side that the claim names.
abbrev pub IsAccepted : GameProblem → Claim → List ℕ → Type 0
IsAccepted q z text = (claim_text z ≡ Some text) × HasVerdict q text (accepted z.winner)

-- The claim is not made into one lemma: it has lemmas, or as one lemma it would pass a limit and would not be accepted.
abbrev pub StaysAsFound : GameProblem → Claim → Type 0
StaysAsFound q z = (0 < length z.lemmas) ⊎ ((y : Claim) (text : List ℕ) → IsLifted q z y → IsAccepted q y text → ⊥)

-- What is written of the claim z that was found: z itself; or, if that is asked for, z as one lemma, whenever it can be made into
-- one.
abbrev pub IsWritten : Bool → GameProblem → Claim → Claim → Type 0
IsWritten false q z y = y ≡ z
IsWritten true q z y = ((z.lemmas ≡ []) × IsLifted q z y) ⊎ (StaysAsFound q z × (y ≡ z))

-- A proof by the claim z, which is accepted: the canonical record and the claim that is written of z, which is also accepted.
pub record IsProofBy (lift : Bool) (q : GameProblem) (z : Claim) (text : List ℕ) : Type 0 where
  pub found : (text : List ℕ) × IsAccepted q z text
  pub claim : Claim
  pub written : IsWritten lift q z claim
  pub spelling : List ℕ
  pub judged : IsAccepted q claim spelling
  pub kept : IsRecordOf q (canonical q)
  pub whole : text ≡ line (tree_text (canonical q)) ++ spelling

-- The record of the same problem with this answer tree, in which the replies ascend, below the problem node: `audit` names this
-- side.
abbrev pub SolvedBy : GameProblem → Colour → AnswerTree → List ℕ → Type 0
SolvedBy q x a text =
    IsTrue (ascends a) × IsRecordOf q (solution q x a) × (audit q (solution q x a) ≡ Ok x) × (text ≡ line (tree_text (solution q x a)))

-- The record of the same problem with an answer tree of a side; or, as a proof, the canonical record and a claim that is accepted.
abbrev pub Solved : Bool → Bool → GameProblem → List ℕ → Type 0
Solved false lift q text = (x : Colour) × (a : AnswerTree) × SolvedBy q x a text
Solved true lift q text = (z : Claim) × IsProofBy lift q z text

-- the greatest number of turns of an answer tree that is written
abbrev pub tree_limit : ℕ
tree_limit = 90000

-- The claim is accepted, and its answer tree has more turns than the limit.
abbrev pub IsOverLimit : GameProblem → Claim → Type 0
IsOverLimit q z = (text : List ℕ) × IsAccepted q z text × (tree_limit < answer_size (expand z (start q)))

-- Some claim that is accepted has an answer tree over the limit.
abbrev pub IsTooLarge : GameProblem → Type 0
IsTooLarge q = (z : Claim) × IsOverLimit q z

-- If the search found a claim, the problem is solved by this claim's own answer tree. A tree over the limit, and no other, is not
-- written.
abbrev pub MayAnswer : Bool → Bool → CheckedClaim → Status → List ℕ → Type 0
MayAnswer false lift k status text =
    ((status ≡ Answered) × (answer_size (expand (claim_of k.certificate) (start k.problem)) ≤ tree_limit)
    × SolvedBy k.problem (claim_of k.certificate).winner (expand (claim_of k.certificate) (start k.problem)) text)
    ⊎ ((status ≡ Unanswered) × IsOverLimit k.problem (claim_of k.certificate) × (text ≡ too_large_text))
MayAnswer true lift k status text = (status ≡ Answered) × IsProofBy lift k.problem (claim_of k.certificate) text

-- A search with this budget may end for this cause after this many steps: no more than it had, and all of them if they are the
-- cause. Unless the cause is memory, the problem is hard, and of a budget of twenty steps or more at least one was made.
pub record MayBeUnknown (q : GameProblem) (budget : ℕ) (cause : Cause) (count : ℕ) : Type 0 where
  pub most : count ≤ budget
  pub all : cause ≡ Steps → count ≡ budget
  pub begun : cause ≢ Memory → 20 ≤ budget → 1 ≤ count
  pub hard : cause ≢ Memory → IsHard q budget

abbrev pub Unsolved : ℕ → Bool → GameProblem → List ℕ → Type 0
Unsolved budget proof q text =
    ((cause : Cause) × (count : ℕ) × MayBeUnknown q budget cause count × (text ≡ unknown_text cause count))
    ⊎ ((proof ≡ false) × IsTooLarge q × (text ≡ too_large_text))
