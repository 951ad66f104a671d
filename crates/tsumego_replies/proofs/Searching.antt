-- What a search lets be said.
use Rattle.tsumego_replies.proofs.Common.{◌≡◌, ℕ, Bool, true, false, List, Result, Ok, Err, inl, inr, refl, subst, IfOk, GameProblem, start, GameTree, Solve, Response, Status, Answered, IsRecord, IsReply}
use Rattle.std.proofs.Common.{◌⊎◌}
use Rattle.proof_cert.specs.Certificate.{claim_of}
use Rattle.cert_check.specs.Expand.{expand}
use Rattle.tsumego_replies.specs.declared.reply.Response.TheVariants.{Text, Solution, TooLong}
use Rattle.run_parts.specs.declared.status.Status.TheVariants.{Unanswered}
use Rattle.tsumego_replies.specs.Solutions.{Solved, MayAnswer, Unsolved}
use Rattle.tsumego_replies.specs.Replies.{IsSearched}

-- A search that found a claim, or did not, answers the command.
pub searched_says : (budget table : ℕ) (proof lift : Bool) (bytes : List ℕ) (tree : GameTree) (n : ℕ) (q : GameProblem) (r : Response) → IsRecord bytes tree n q → IsSearched budget proof lift q r
    → IsReply (Solve budget table proof lift) bytes r
searched_says budget table proof lift bytes tree n q (Text reply) is (status, unsolved) = inr (q, tree, n, is, inr (status, unsolved))
searched_says budget table proof lift bytes tree n q TooLong is none = absurd none
searched_says budget table proof lift bytes tree n q (Solution k as_proof as_lifted) is (same, kind, form) =
    λ status said may. inr (q, tree, n, is, subst (λ p. Answers p proof lift status said) same (go proof lift status said (subst (λ l. MayAnswer proof l k status said) form (subst (λ p. MayAnswer p as_lifted k status said) kind may))))
  where
    Answers : GameProblem → Bool → Bool → Status → List ℕ → Type 0
    Answers p proof lift status said = ((status ≡ Answered) × Solved proof lift p said) ⊎ ((status ≡ Unanswered) × Unsolved budget proof p said)

    go : (proof lift : Bool) (status : Status) (said : List ℕ) → MayAnswer proof lift k status said → Answers k.problem proof lift status said
    go true lift status said (answered, by_claim) = inl (answered, (claim_of k.certificate, by_claim))
    go false lift status said (inl (answered, few, solved)) = inl (answered, ((claim_of k.certificate).winner, expand (claim_of k.certificate) (start k.problem), solved))
    go false lift status said (inr (unanswered, large, is)) = inr (unanswered, inr (refl, (claim_of k.certificate, large), is))

-- What is replied to a search is a reply to the command, where the bytes hold the record.
pub searched_for : {E : Type 0} (budget table : ℕ) (proof lift : Bool) (bytes : List ℕ) (tree : GameTree) (n : ℕ) (q : GameProblem) (r : Result Response E) → IsRecord bytes tree n q
    → IfOk r (λ x. IsSearched budget proof lift q x) → IfOk r (λ x. IsReply (Solve budget table proof lift) bytes x)
searched_for budget table proof lift bytes tree n q (Ok x) is said = searched_says budget table proof lift bytes tree n q x is said
searched_for budget table proof lift bytes tree n q (Err e) is said = tt
