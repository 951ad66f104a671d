-- What a run of a session leaves is what the command leaves.
use Rattle.tsumego.proofs.Common.{◌≡◌, ℕ, ◌<◌, true, false, length, List, [], ◌∷◌, ◌++◌, codes, Option, Some, None, ◌⊎◌, inl, inr, refl, sym, ap, ◌∙◌, subst, arith, append_assoc, Appends, raw_lines, failure, GtpSession, Answers, Serves, reply, IsRun, HasStoppedOn, first_session, is_session, Command, Check, Audit, Solve, Gtp, Status, Answered, Failed, no_read_text, EndsOn, MaySay, RanOn, Writes}
use Rattle.std.proofs.Common.{append-nil, length-append}
use Rattle.std.proofs.KnownBytes.{Appends-trans}
use Rattle.gtp_core.specs.declared.end.GtpEnd.TheVariants as stop
use Rattle.gtp_core.specs.Lines.{Request, nothing, bad_line, asks, request_of}
use Rattle.gtp_core.specs.Serving.{HadNoMemory, last_reply}
use Rattle.gtp_core.specs.Runs.{HasRun, input_limit}
use Rattle.tsumego_words.specs.declared.command_line.Command.TheVariants.{Within}
use Rattle.gtp_core.proofs.Running.{left_bytes, tells_all}

-- every session can serve every line
served : (s : GtpSession) (line : List ℕ) → (bytes : List ℕ) × (new : GtpSession) × Serves s line (reply bytes) new
served s line = go (request_of line) refl
  where
    go : (r : Request) → request_of line ≡ r → (bytes : List ℕ) × (new : GtpSession) × Serves s line (reply bytes) new
    go nothing e = ([], s, inl (subst (λ r. Answers s r (reply []) s) (sym e) (refl, refl)))
    go bad_line e = (failure [] (codes "syntax error"), s, inl (subst (λ r. Answers s r (reply (failure [] (codes "syntax error"))) s) (sym e) (refl, refl)))
    go (asks id words) e =
        let none : HadNoMemory s (asks id words) (reply (failure [] (codes "out of memory"))) s = record { needed = refl; written = refl; kept = refl } in
        (failure [] (codes "out of memory"), s, inr (subst (λ r. HadNoMemory s r (reply (failure [] (codes "out of memory"))) s) (sym e) none))

-- and so all lines
all_served : (s : GtpSession) (ls : List (List ℕ)) → (w : List ℕ) × IsRun s ls w
all_served s [] = ([], refl)
all_served s (l ∷ ls) =
    let (bytes, new, one) = served s l in
    let (rest, more) = all_served new ls in
    (bytes ++ rest, inl (bytes, rest, new, one, refl, more))

-- a run over the lines at the front goes on over all
runs_on : (s : GtpSession) (front behind : List (List ℕ)) (w : List ℕ) → IsRun s front w → (more : List ℕ) × IsRun s (front ++ behind) (w ++ more)
runs_on s [] behind w none =
    let (rest, more) = all_served s behind in
    (rest, subst (λ x. IsRun s behind (x ++ rest)) (sym none) more)
runs_on s (l ∷ ls) behind w (inl (bytes, rest, new, one, whole, others)) =
    let (more, on) = runs_on new ls behind rest others in
    (more, inl (bytes, rest ++ more, new, one, ap (λ x. x ++ more) whole ∙ append_assoc bytes rest more, on))
runs_on s (l ∷ ls) behind w (inr (new, last)) = ([], inr (new, subst (λ x. Serves s l (last_reply x) new) (sym (append-nil w)) last))

module _ (told left old : Option (List ℕ)) (reads fails : Type 0) where
  pub session_ends : (new : Option (List ℕ)) → HasRun told left old new → RanOn (Some Gtp) told (λ bytes. reads ⊎ (input_limit < length bytes)) fails Answered old new
  session_ends new (bytes, written, tells, taken, run, end) = (bytes, written, tells, taken, inl (inl (refl, run)), λ failed. absurd (cc failed))

  -- an input with more is too long as well
  too_long : (taken more : List ℕ) → reads ⊎ (input_limit < length taken) → reads ⊎ (input_limit < length (taken ++ more))
  too_long taken more (inl known) = inl known
  too_long taken more (inr long) = let all = length-append taken more in inr (omega (arith, long, all))

  pub session_read_fails : (writes : Type 0) (mid new : Option (List ℕ)) (result : Status) → HasStoppedOn reads writes stop.Read told left old mid → Writes fails mid new no_read_text Failed result
      → RanOn (Some Gtp) told (λ bytes. reads ⊎ (input_limit < length bytes)) fails result old new
  session_read_fails writes mid new result (taken, written, given, appended, read, why) (inl (same, whole)) =
      let more = left_bytes left in
      let said : MaySay Gtp (taken ++ more) Failed (written ++ no_read_text) = inr (refl, (taken, more, written, refl, read, refl)) in (
        taken ++ more,
        written ++ no_read_text,
        tells_all told left taken given,
        Appends-trans old mid new written no_read_text appended whole,
        inl (subst (λ s. MaySay Gtp (taken ++ more) s (written ++ no_read_text)) (sym same) said),
        λ failed. inr (inl (too_long taken more why, (written, refl))),
      )
  session_read_fails writes mid new result (taken, written, given, appended, read, why) (inr (failed, fault, (part, rest, whole, passed))) =
      let more = left_bytes left in
      let text : (written ++ part) ++ rest ≡ written ++ no_read_text = append_assoc written part rest ∙ ap (λ x. written ++ x) (sym whole) in (
        taken ++ more,
        written ++ part,
        tells_all told left taken given,
        Appends-trans old mid new written part appended passed,
        inr (failed, inr (rest, inl (Failed, inr (refl, (taken, more, written, refl, read, text))))),
        λ e. inr (inr fault),
      )

  pub session_write_fails : (new : Option (List ℕ)) → HasStoppedOn reads fails stop.Write told left old new → RanOn (Some Gtp) told (λ bytes. reads ⊎ (input_limit < length bytes)) fails Failed old new
  session_write_fails new (bytes, written, tells, taken, cut, fault) =
      let on = runs_on first_session cut.front cut.behind (written ++ cut.rest) cut.run in
      let run : IsRun first_session (raw_lines bytes) (written ++ (cut.rest ++ on.0)) =
      subst (λ ls. IsRun first_session ls (written ++ (cut.rest ++ on.0))) (sym cut.parted) (subst (IsRun first_session (cut.front ++ cut.behind)) (append_assoc written cut.rest on.0) on.1) in
      (bytes, written, tells, taken, inr (refl, inr (cut.rest ++ on.0, inl (Answered, inl (refl, run)))), λ e. inr (inr fault))

-- what is said of a session that was answered says nothing of a run that failed, and of another command
fails_with : (fails : Type 0) (mid new : Option (List ℕ)) (text : List ℕ) (result : Status) → Writes fails mid new text Failed result → result ≡ Failed
fails_with fails mid new text result (inl (same, whole)) = same
fails_with fails mid new text result (inr (failed, fault, part)) = failed

module _ (told left old new : Option (List ℕ)) where
  pub ends_failed : (command : Option Command) → EndsOn command Failed told left old new
  ends_failed None = tt
  ends_failed (Some Gtp) = λ answered. absurd (cc answered)
  ends_failed (Some Check) = tt
  ends_failed (Some (Within turns nodes)) = tt
  ends_failed (Some Audit) = tt
  ends_failed (Some (Solve steps table proof lift)) = tt

  pub ends_written : (command : Option Command) (fails : Type 0) (mid : Option (List ℕ)) (text : List ℕ) (result : Status) → Writes fails mid new text Failed result → EndsOn command result told left old new
  ends_written command fails mid text result writes = subst (λ s. EndsOn command s told left old new) (sym (fails_with fails mid new text result writes)) (ends_failed command)

  pub ends_other : (command : Command) (status : Status) → is_session command ≡ false → EndsOn (Some command) status told left old new
  ends_other Gtp status whole = absurd (cc whole)
  ends_other Check status whole = tt
  ends_other (Within turns nodes) status whole = tt
  ends_other Audit status whole = tt
  ends_other (Solve steps table proof lift) status whole = tt

  pub ends_wordless : (command : Option Command) (status : Status) → command ≡ None → EndsOn command status told left old new
  ends_wordless command status none = subst (λ k. EndsOn k status told left old new) (sym none) tt

-- nothing was written before
pub writes_after : (old mid new : Option (List ℕ)) (fails : Type 0) (text : List ℕ) (status result : Status) → Appends old mid [] → Writes fails mid new text status result → Writes fails old new text status result
writes_after old mid new fails text status result none (inl (same, taken)) = inl (same, Appends-trans old mid new [] text none taken)
writes_after old mid new fails text status result none (inr (failed, fault, (part, rest, whole, taken))) = inr (failed, fault, (part, rest, whole, Appends-trans old mid new [] part none taken))

pub is_gtp : (command : Command) → is_session command ≡ true → command ≡ Gtp
is_gtp Gtp e = refl
is_gtp Check e = absurd (cc e)
is_gtp (Within turns nodes) e = absurd (cc e)
is_gtp Audit e = absurd (cc e)
is_gtp (Solve steps table proof lift) e = absurd (cc e)
