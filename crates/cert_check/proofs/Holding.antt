-- A certificate that is held: what is answered of its lines, and whether it is valid.
use Rattle.cert_check.proofs.Common.{◌≡◌, ℕ, ◌-◌, ◌^◌, ◌≤◌, ◌⊎◌, inl, inr, Bool, true, false, List, [], ◌∷◌, ◌++◌, length, map, Option, Some, None, IsTrue, IsSome, Ok, refl, sym, ap, ◌∙◌, subst, arith, if◌then◌else◌, list_all, MAX_SIZE, Colour, GameProblem, Claim, IsWithinLimits, Line, lines_of, text, text_of_lines, is_spelled, Held, held_gives, why_value, Rejects, Why, verdict, accepted, rejected, IsValid, line_values, Answers, Accepts, RejectsAt, FailsAt, IsChecked, verdict_on}
use Rattle.proof_cert.specs.Text.{OneClaimOfText}
use Rattle.proof_cert.specs.Held.{spelled_line, held_source_of}
use Rattle.proof_cert.specs.Given.{IsFrontOfClaim, LinesGivenOfClaim}
use Rattle.cert_check.specs.declared.reject.Why.TheVariants as stops
use Rattle.cert_check.specs.declared.reject.Reject.{Reject}
use Rattle.cert_check.specs.Stage.{IsRejection}
use Rattle.cert_check.proofs.Members.{and_first, and_second}
use Rattle.cert_check.proofs.Faults.{faults_stay}
use Rattle.cert_check.proofs.Spelling.{accepts_valid_claims, text_spelled}
use Rattle.cert_check.proofs.Taking.{as_long, each_why}
use Rattle.proof_cert.proofs.Giving.{all_spelled}

-- lines that are all spelled are given as they are
one_spelled : (n : ℕ) (l : Option Line) → IsTrue (is_spelled n l) → spelled_line n l ≡ l
one_spelled n l h = ap (λ b. if b then l else None) h

-- and lines that are given spelled are
one_given : (n : ℕ) (l : Option Line) → IsTrue (is_spelled n (spelled_line n l)) → IsTrue (is_spelled n l)
one_given n l h = go (is_spelled n l) refl h
  where
    go : (b : Bool) → is_spelled n l ≡ b → IsTrue (is_spelled n (if b then l else None)) → IsTrue (is_spelled n l)
    go true e g = e
    go false e g = absurd (cc)

spelled_given : (n : ℕ) (ls : List (Option Line)) → IsTrue (list_all (is_spelled n) (map (spelled_line n) ls)) → map (spelled_line n) ls ≡ ls
spelled_given n [] h = refl
spelled_given n (l ∷ ls) h =
    ap (λ k. k ∷ map (spelled_line n) ls) (one_spelled n l (one_given n l (and_first (is_spelled n (spelled_line n l)) (list_all (is_spelled n) (map (spelled_line n) ls)) h)))
    ∙ ap (λ ks. l ∷ ks) (spelled_given n ls (and_second (is_spelled n (spelled_line n l)) (list_all (is_spelled n) (map (spelled_line n) ls)) h))

some_text : (o : Option (List ℕ)) → IsSome o → (b : List ℕ) × (o ≡ Some b)
some_text None h = absurd (cc)
some_text (Some b) h = (b, refl)

module _ (q : GameProblem) (z : Claim) (low : 1 ≤ q.game.size) (high : q.game.size ≤ MAX_SIZE) (size : z.size ≡ q.game.size) where
  -- a claim with the same lines is the same
  same_claim : OneClaimOfText → (y : Claim) → IsValid q y → map (spelled_line z.size) (lines_of z) ≡ lines_of y → y ≡ z
  same_claim one y v e =
      let sizes : y.size ≡ z.size = v.size ∙ sym size in
      let spelled : IsTrue (list_all (is_spelled z.size) (map (spelled_line z.size) (lines_of z))) =
      subst (λ (ls : List (Option Line)). IsTrue (list_all (is_spelled z.size) ls)) (sym e) (subst (λ (n : ℕ). IsTrue (list_all (is_spelled n) (lines_of y))) sizes (text_spelled y.size (lines_of y) v.spelled)) in
      let same : lines_of z ≡ lines_of y = sym (spelled_given z.size (lines_of z) spelled) ∙ e in
      let bytes = some_text (text y) v.spelled in
      let other : text z ≡ Some bytes.0 = ap (λ (ls : List (Option Line)). text_of_lines z.size ls) same ∙ ap (λ (n : ℕ). text_of_lines n (lines_of y)) (sym sizes) ∙ bytes.1 in
      one y z bytes.0 sizes bytes.1 other

  pub held_accepted : LinesGivenOfClaim → OneClaimOfText → (x : Colour) → Accepts held_gives z.size q (held_source_of z) x → IsChecked q z × (z.winner ≡ x)
  held_accepted law one x h =
      let front = law z (line_values z.size h.taken) h.left h.took in
      let given : map (spelled_line z.size) (lines_of z) ≡ line_values q.game.size h.taken = front.all h.ended.0 h.ended.1 ∙ ap (λ (n : ℕ). line_values n h.taken) size in
      let r = (accepts_valid_claims q (line_values q.game.size h.taken) x low high).0 h.accepted in
      let y : Claim = r.0 in
      let valid : IsValid q y = r.3 in
      let limits : IsWithinLimits y = r.2 in
      let same : y ≡ z = same_claim one y valid (given ∙ r.1) in
      (record { valid = subst (λ (c : Claim). IsValid q c) same valid; limits = subst (λ (c : Claim). IsWithinLimits c) same limits }, ap (λ (c : Claim). c.winner) (sym same) ∙ r.4)

  -- the lines of a checked claim are accepted
  checked_lines : IsChecked q z → (map (spelled_line z.size) (lines_of z) ≡ lines_of z) × (verdict q (lines_of z) ≡ accepted z.winner)
  checked_lines k =
      let valid = k.valid in
      let limits = k.limits in
      (all_spelled z.size (lines_of z) (text_spelled z.size (lines_of z) valid.spelled), (accepts_valid_claims q (lines_of z) z.winner low high).1 (z, refl, limits, valid, refl))

  -- a refusal is the verdict, and that of no checked claim
  held_fault : LinesGivenOfClaim → (place : ℕ) (why : Why) → RejectsAt held_gives z.size q (held_source_of z) place why → verdict_on q z ≡ rejected place why
  held_fault law place why h = side h.there
    where
      front : IsFrontOfClaim z (line_values z.size h.taken) h.left
      front = law z (line_values z.size h.taken) h.left h.took

      values : line_values z.size h.taken ≡ line_values q.game.size h.taken
      values = ap (λ (n : ℕ). line_values n h.taken) size

      side : Answers held_gives h.left (Ok None) ⊎ (place ≤ length h.taken) → verdict_on q z ≡ rejected place why
      side (inl a) = ap (verdict q) (front.all a.0 a.1 ∙ values) ∙ h.rejected
      side (inr less) =
          let long = as_long q.game.size h.taken in
          ap (verdict q) (front.front ∙ ap (λ (ls : List (Option Line)). ls ++ h.left.left) values) ∙ faults_stay q (line_values q.game.size h.taken) h.left.left place why h.rejected (omega (arith, less, long))

  held_rejected : (place : ℕ) (why : Why) → verdict_on q z ≡ rejected place why → IsChecked q z → ⊥
  held_rejected place why e k = let good = checked_lines k in absurd (cc (sym good.1 ∙ ap (verdict q) (sym good.0) ∙ e))

  -- no certificate has so many lines that they cannot be counted
  held_read : (place : ℕ) → FailsAt held_gives (λ (s : Held). s.number) z.size q (held_source_of z) place → ⊥
  held_read place h =
      let last : h.left.number ≡ 2 ^ 64 - 2 = h.failed.1.1 in
      let counted = h.counted in
      let few = h.few in
      absurd (omega (arith, last, counted, few))

  -- what a refusal says
  pub held_refused : LinesGivenOfClaim → (e : Reject) → ((w : Why) → why_value q.game.size e.why ≡ Some w → RejectsAt held_gives z.size q (held_source_of z) e.place w)
      → (e.why ≡ stops.Read → FailsAt held_gives (λ (s : Held). s.number) z.size q (held_source_of z) e.place)
      → ((e.why ≡ stops.Memory) ⊎ (IsChecked q z → ⊥)) × Rejects q.game.size (verdict_on q z) e × (e.why ≡ stops.Read → ⊥)
  held_refused law e rejects fails = (side (each_why q.game.size e.why), said_of (why_value q.game.size e.why) said, λ r. held_read e.place (fails r))
    where
      said : (w : Why) → why_value q.game.size e.why ≡ Some w → verdict_on q z ≡ rejected e.place w
      said w is = held_fault law e.place w (rejects w is)

      said_of : (o : Option Why) → ((w : Why) → o ≡ Some w → verdict_on q z ≡ rejected e.place w) → IsRejection (verdict_on q z) e.place o
      said_of None h = tt
      said_of (Some w) h = h w refl

      side : (e.why ≡ stops.Memory) ⊎ ((e.why ≡ stops.Read) ⊎ ((w : Why) × (why_value q.game.size e.why ≡ Some w))) → (e.why ≡ stops.Memory) ⊎ (IsChecked q z → ⊥)
      side (inl m) = inl m
      side (inr (inl r)) = absurd (held_read e.place (fails r))
      side (inr (inr w)) = inr (held_rejected e.place w.0 (said w.0 w.1))
