-- What is written, and what a run has then left.
use Rattle.tsumego.proofs.Common.{◌≡◌, ℕ, false, List, [], ◌++◌, Option, Some, None, Result, Ok, Err, inl, inr, ◌⊎◌, sym, ◌∙◌, ap, subst, Colour, start, decision, Within as Decision, Verdict, accepted, rejected, Fault, audit, Command, Check, Audit, Solve, Gtp, Status, Failed, is_session, no_memory_text, no_read_text, Says, SaysFailure, check_answer, audit_answer, within_answer, Tells, Outcome, MaySay, RanOn, Writes, some_bytes}
use Rattle.target_game.specs.declared.within.Within.TheVariants as decided
use Rattle.tsumego_words.specs.declared.command_line.Command.TheVariants.{Within}
use Rattle.run_parts.specs.declared.status.Status.TheVariants.{BadWords}
use Rattle.tsumego_replies.specs.Answers.{PassesBound}
use Rattle.tsumego.specs.Devices.{PassesLimit}
use Rattle.tsumego.specs.Outcome.{Explains}

-- ---- why a run failed

-- that a read failed may be said where no reply was given
after_nothing : {read write : Type 0} {written : List ℕ} → (written ≡ no_memory_text) ⊎ ((read × (written ≡ no_read_text)) ⊎ write)
    → (written ≡ no_memory_text) ⊎ ((read × ((replies : List ℕ) × (written ≡ replies ++ no_read_text))) ⊎ write)
after_nothing (inl is) = inl is
after_nothing (inr (inl (why, is))) = inr (inl (why, ([], is)))
after_nothing (inr (inr fault)) = inr (inr fault)

pub explained : (command : Option Command) {read write : Type 0} {status : Status} {written : List ℕ} → Explains None read write status written → Explains command read write status written
explained None e = e
explained (Some Check) e = e
explained (Some (Within turns nodes)) e = e
explained (Some Audit) e = e
explained (Some (Solve steps table proof lift)) e = e
explained (Some Gtp) e = λ failed. after_nothing (e failed)

check_answers : (n : ℕ) (v : Verdict) (text : List ℕ) → (Failed, text) ≡ check_answer n v → ⊥
check_answers n (accepted x) text e = absurd (cc (ap (λ p. p.0) e))
check_answers n (rejected place why) text e = absurd (cc (ap (λ p. p.0) e))

within_answers : (w : Decision) (text : List ℕ) → (Failed, text) ≡ within_answer w → ⊥
within_answers (decided.Wins x) text e = absurd (cc (ap (λ p. p.0) e))
within_answers decided.Neither text e = absurd (cc (ap (λ p. p.0) e))
within_answers decided.Limit text e = absurd (cc (ap (λ p. p.0) e))

audit_answers : (n : ℕ) (r : Result Colour Fault) (text : List ℕ) → (Failed, text) ≡ audit_answer n r → ⊥
audit_answers n (Ok x) text e = absurd (cc (ap (λ p. p.0) e))
audit_answers n (Err fault) text e = absurd (cc (ap (λ p. p.0) e))

-- no command but a session says in full that it failed
pub says_no_failure : (command : Command) (bytes text : List ℕ) → is_session command ≡ false → Says command bytes Failed text → ⊥
says_no_failure Gtp bytes text whole says = absurd (cc whole)
says_no_failure Check bytes text whole (inl (refusal, refuses, e, is)) = absurd (cc e)
says_no_failure Check bytes text whole (inr (q, tree, n, is, (few, (v, has, said)))) = check_answers q.game.size v text said
says_no_failure (Within turns nodes) bytes text whole (inl (refusal, refuses, e, is)) = absurd (cc e)
says_no_failure (Within turns nodes) bytes text whole (inr (q, tree, n, is, said)) = within_answers (decision (start q) turns nodes) text said
says_no_failure Audit bytes text whole (inl (refusal, refuses, e, is)) = absurd (cc e)
says_no_failure Audit bytes text whole (inr (q, tree, n, is, said)) = audit_answers q.game.size (audit q tree) text said
says_no_failure (Solve steps table proof lift) bytes text whole (inl (refusal, refuses, e, is)) = absurd (cc e)
says_no_failure (Solve steps table proof lift) bytes text whole (inr (q, tree, n, is, inl (e, solved))) = absurd (cc e)
says_no_failure (Solve steps table proof lift) bytes text whole (inr (q, tree, n, is, inr (e, unsolved))) = absurd (cc e)

-- what a command says that reads a record may be said
pub may_say : (command : Command) (bytes : List ℕ) (status : Status) (text : List ℕ) → is_session command ≡ false → Says command bytes status text → MaySay command bytes status text
may_say Check bytes status text whole says = says
may_say (Within turns nodes) bytes status text whole says = says
may_say Audit bytes status text whole says = says
may_say (Solve steps table proof lift) bytes status text whole says = says
may_say Gtp bytes status text whole says = absurd (cc whole)

pub passes_limit : (command : Command) (bytes : List ℕ) → PassesBound command bytes → PassesLimit command bytes
passes_limit Check bytes passes = passes
passes_limit (Within turns nodes) bytes passes = absurd passes
passes_limit Audit bytes passes = absurd passes
passes_limit (Solve steps table proof lift) bytes passes = absurd passes
passes_limit Gtp bytes passes = absurd passes

-- ---- what is written

module _ (old new : Option (List ℕ)) (text : List ℕ) (fails : Type 0) where
  pub ran_said : (command : Command) (told : Option (List ℕ)) (read : List ℕ → Type 0) (bytes : List ℕ) (status result : Status) → is_session command ≡ false → Tells told bytes → Says command bytes status text
      → Writes fails old new text status result → RanOn (Some command) told read fails result old new
  ran_said command told read bytes status result whole tells says (inl (same, taken)) = (
    bytes,
    text,
    tells,
    taken,
    inl (subst (λ s. MaySay command bytes s text) (sym same) (may_say command bytes status text whole says)),
    explained (Some command) (λ failed. absurd (says_no_failure command bytes text whole (subst (λ s. Says command bytes s text) (sym same ∙ failed) says))),
  )
  ran_said command told read bytes status result whole tells says (inr (failed, fault, (part, rest, all, taken))) = (
    bytes,
    part,
    tells,
    taken,
    inr (failed, inr (rest, inl (status, subst (MaySay command bytes status) all (may_say command bytes status text whole says)))),
    explained (Some command) (λ e. inr (inr fault)),
  )

  pub ran_no_memory : (told : Option (List ℕ)) (read : List ℕ → Type 0) (command : Option Command) (result : Status) → text ≡ no_memory_text → Writes fails old new text Failed result → RanOn command told read fails result old new
  ran_no_memory told read command result is (inl (same, taken)) = let b = some_bytes told in (b.0, text, b.1, taken, go command, explained command (λ e. inl is))
    where
      go : (command : Option Command) → Outcome command (some_bytes told).0 result text
      go (Some command) = inr (same, inl (inl is))
      go None = inr same
  ran_no_memory told read command result is (inr (failed, fault, (part, rest, whole, taken))) = let b = some_bytes told in (b.0, part, b.1, taken, go command, explained command (λ e. inr (inr fault)))
    where
      go : (command : Option Command) → Outcome command (some_bytes told).0 result part
      go (Some command) = inr (failed, inr (rest, inr (subst SaysFailure whole (inl is))))
      go None = inr failed

  pub ran_no_read : (command : Command) (told : Option (List ℕ)) (read : List ℕ → Type 0) (bytes : List ℕ) (result : Status) → Tells told bytes → read bytes → text ≡ no_read_text → Writes fails old new text Failed result
      → RanOn (Some command) told read fails result old new
  ran_no_read command told read bytes result tells why is (inl (same, taken)) = (bytes, text, tells, taken, inr (same, inl (inr is)), explained (Some command) (λ e. inr (inl (why, is))))
  ran_no_read command told read bytes result tells why is (inr (failed, fault, (part, rest, whole, taken))) =
      (bytes, part, tells, taken, inr (failed, inr (rest, inr (subst SaysFailure whole (inr is)))), explained (Some command) (λ e. inr (inr fault)))

  pub ran_no_words : (told : Option (List ℕ)) (read : List ℕ → Type 0) (command : Option Command) (result : Status) → command ≡ None → Writes fails old new text BadWords result → RanOn command told read fails result old new
  ran_no_words told read command result none writes = subst (λ o. RanOn o told read fails result old new) (sym none) (go writes)
    where
      go : Writes fails old new text BadWords result → RanOn None told read fails result old new
      go (inl (same, taken)) = let b = some_bytes told in (b.0, text, b.1, taken, inl same, λ failed. absurd (cc (sym same ∙ failed)))
      go (inr (failed, fault, (part, rest, whole, taken))) = let b = some_bytes told in (b.0, part, b.1, taken, inr failed, λ e. inr (inr fault))
