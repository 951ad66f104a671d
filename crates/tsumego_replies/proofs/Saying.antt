-- What a call that makes a text or a reply lets be said.
use Rattle.tsumego_replies.proofs.Common.{◌≡◌, ℕ, false, List, [], ◌++◌, Option, Some, None, Result, Ok, Err, inl, inr, refl, sym, ◌∙◌, ap, IfOk, Consumes, IsAtEnd, GameProblem, GameTree, Refuses, Command, Check, Within, Audit, Solve, Gtp, Status, line, IsRecord, Says, Tells}
use Rattle.std.proofs.lemmas.List.{append-nil}
use Rattle.run_parts.specs.declared.status.Status.TheVariants.{Refused}
use Rattle.tsumego_words.specs.CommandLine.{is_session}
use Rattle.tsumego_replies.specs.Answers.{RefusedOr}

-- the bytes that a reader tells, where it tells them
pub some_bytes : (told : Option (List ℕ)) → (bytes : List ℕ) × Tells told bytes
some_bytes None = ([], tt)
some_bytes (Some bytes) = (bytes, refl)

-- all of them, where it has come to its end
pub all_told : (old new : Option (List ℕ)) (bytes : List ℕ) → Consumes old new bytes → IsAtEnd new → Tells old bytes
all_told None new bytes c end = tt
all_told (Some told) None bytes c end = absurd c
all_told (Some told) (Some left) bytes c end = sym (c ∙ ap (λ xs. bytes ++ xs) end ∙ append-nil bytes)

-- what a call that makes a text gives
pub said_so : {S E : Type 0} (f : S → List ℕ) (r : Result S E) (a b : List ℕ) → IfOk r (λ s. f s ≡ a) → a ≡ b → IfOk r (λ s. f s ≡ b)
said_so f (Ok s) a b is same = is ∙ same
said_so f (Err e) a b is same = tt

pub said_for : {S E W : Type 0} (f : S → List ℕ) (P : W → Type 0) (b : W → List ℕ) (r : Result S E) (a : List ℕ) → IfOk r (λ s. f s ≡ a) → ((w : W) → P w → a ≡ b w) → IfOk r (λ s. (w : W) → P w → f s ≡ b w)
said_for f P b (Ok s) a is same = λ w p. is ∙ same w p
said_for f P b (Err e) a is same = tt

-- what is said of a record is said of the bytes
pub said_of_record : {S E : Type 0} (status : S → Status) (text : S → List ℕ) (Said : GameProblem → GameTree → ℕ → Status → List ℕ → Type 0) (bytes : List ℕ) (tree : GameTree) (n : ℕ) (q : GameProblem) (r : Result S E)
    → IsRecord bytes tree n q → IfOk r (λ x. Said q tree n (status x) (text x)) → IfOk r (λ x. RefusedOr Said bytes (status x) (text x))
said_of_record status text Said bytes tree n q (Ok x) is said = inr (q, tree, n, is, said)
said_of_record status text Said bytes tree n q (Err f) is said = tt

-- a refusal is said whatever the command
pub refused_says : (command : Command) (bytes text : List ℕ) → is_session command ≡ false → (refusal : List ℕ) × Refuses bytes refusal × (text ≡ line refusal) → Says command bytes Refused text
refused_says Check bytes text whole (refusal, refuses, is) = inl (refusal, refuses, refl, is)
refused_says (Within turns nodes) bytes text whole (refusal, refuses, is) = inl (refusal, refuses, refl, is)
refused_says Audit bytes text whole (refusal, refuses, is) = inl (refusal, refuses, refl, is)
refused_says (Solve steps table proof lift) bytes text whole (refusal, refuses, is) = inl (refusal, refuses, refl, is)
refused_says Gtp bytes text whole h = absurd (cc whole)
