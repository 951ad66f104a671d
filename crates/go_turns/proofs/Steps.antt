-- The steps that a record keeps, against its history.
use Rattle.go_turns.proofs.Common.{◌≡◌, ℕ, suc, ◌+◌, ◌<◌, ◌≤◌, List, [], ◌∷◌, ◌++◌, map, reverse, take, length, get_or, None, inl, inr, refl, sym, ◌∙◌, ap, arith, take_all, get_or_append_left, length-take-le, map-append, get_or_default, get_or_push, cases_lt, Cell, side_of, first_without_liberty, Step, IsAt, CanStand, StepsFit}
use Rattle.std.proofs.lemmas.List.{take-append-le, take-take, length-append, reverse-append}
use Rattle.std.proofs.lemmas.List.Elements.{All-push}
use Rattle.std.proofs.lemmas.List.Quantifiers.{all_pairs_push}

-- the colouring that is present can be taken over again
can_stand : (h : List (List Cell)) (place : ℕ) (c : List Cell) → IsAt h place c → first_without_liberty (side_of c) c ≡ None → CanStand (side_of c) h place
can_stand h place c at free = record {
  within = at.within;
  size = ap side_of at.same;
  liberties = ap (first_without_liberty (side_of c)) at.same ∙ free;
}

-- the colouring that was added, at its place
pub at_end : (h : List (List Cell)) (c : List Cell) → IsAt (h ++ c ∷ []) (length h) c
at_end h c = record {
  within = omega (arith, length-append h (c ∷ []));
  same = get_or_push h c [] (length h) refl;
}

module _ {X : Type 0} (occurred place passes : X → ℕ) (n : ℕ) where
  -- a longer history still fits
  pub fit_longer : (h ys : List (List Cell)) (steps : List X) → StepsFit occurred place passes n h steps → StepsFit occurred place passes n (h ++ ys) steps
  fit_longer h ys steps fit = record {
    within = λ k d on. omega (arith, fit.within k d on, length-append h ys);
    order = fit.order;
    found = λ k d on. rw (take-append-le (occurred (get_or steps k d)) h ys (fit.within k d on)) (fit.found k d on);
    few = fit.few;
  }

  -- one more step, which keeps the whole history
  fit_push : (h : List (List Cell)) (steps : List X) (x : X) → occurred x ≡ length h → CanStand n h (place x) → passes x ≤ length steps + 2 → StepsFit occurred place passes n h steps → StepsFit occurred place passes n h (steps ++ x ∷ [])
  fit_push h steps x whole stands few fit =
      let all : take (occurred x) h ≡ h = take_all (occurred x) h (omega arith) in
      record {
        within = All-push (λ s. occurred s ≤ length h) steps x fit.within (omega arith);
        order = all_pairs_push (λ s t. occurred s ≤ occurred t) steps x fit.order (λ k d on. omega (arith, fit.within k d on));
        found = All-push (λ s. CanStand n (take (occurred s) h) (place s)) steps x fit.found (rw all stands);
        few = λ k d on. few_push k d (omega (arith, on, length-append steps (x ∷ [])));
      }
    where
      few_push : (k : ℕ) (d : X) → k < length steps + 1 → passes (get_or (steps ++ x ∷ []) k d) ≤ k + 2
      few_push k d on = elim (cases_lt k (length steps)) [
        | inl low ↦ rw (get_or_append_left steps (x ∷ []) d k low) (fit.few k d low)
        | inr high ↦ (let last : k ≡ length steps = omega arith in rw (last, get_or_push steps x d (length steps) refl) few)
      ]

  -- no step keeps more than the last
  pub below_last : (h : List (List Cell)) (steps : List X) (x : X) → StepsFit occurred place passes n h (steps ++ x ∷ []) → (k : ℕ) (d : X) → k < length steps → occurred (get_or steps k d) ≤ occurred x
  below_last h steps x fit k d on =
      let both = fit.order k (length steps) x on (omega (arith, length-append steps (x ∷ []))) in
      rw (get_or_push steps x x (length steps) refl, get_or_append_left steps (x ∷ []) x k on, get_or_default steps k x d on) at both

  -- what is known of the last step
  pub last_stands : (h : List (List Cell)) (steps : List X) (x : X) → StepsFit occurred place passes n h (steps ++ x ∷ []) → CanStand n (take (occurred x) h) (place x)
  last_stands h steps x fit = rw (get_or_push steps x x (length steps) refl) at (fit.found (length steps) x (omega (arith, length-append steps (x ∷ []))))

  pub last_few : (h : List (List Cell)) (steps : List X) (x : X) → StepsFit occurred place passes n h (steps ++ x ∷ []) → passes x ≤ length steps + 2
  last_few h steps x fit = rw (get_or_push steps x x (length steps) refl) at (fit.few (length steps) x (omega (arith, length-append steps (x ∷ []))))

  pub last_within : (h : List (List Cell)) (steps : List X) (x : X) → StepsFit occurred place passes n h (steps ++ x ∷ []) → occurred x ≤ length h
  last_within h steps x fit = rw (get_or_push steps x x (length steps) refl) at (fit.within (length steps) x (omega (arith, length-append steps (x ∷ []))))

  -- the last step is taken off, and with it what it has not kept
  pub fit_pop : (h : List (List Cell)) (steps : List X) (x : X) → StepsFit occurred place passes n h (steps ++ x ∷ []) → StepsFit occurred place passes n (take (occurred x) h) steps
  fit_pop h steps x fit =
      let long = length-append steps (x ∷ []) in
      let short = length-take-le (occurred x) h (last_within h steps x fit) in
      let below = below_last h steps x fit in
      record {
        within = λ k d on. omega (arith, below k d on, short);
        order = λ i j d lt on. rw (get_or_append_left steps (x ∷ []) d i (omega arith), get_or_append_left steps (x ∷ []) d j on) at (fit.order i j d lt (omega arith));
        found = λ k d on. rw (take-take (occurred (get_or steps k d)) (occurred x) h (below k d on)) (rw (get_or_append_left steps (x ∷ []) d k on) at (fit.found k d (omega arith)));
        few = λ k d on. rw (get_or_append_left steps (x ∷ []) d k on) at (fit.few k d (omega arith));
      }

-- the moments of steps that keep no more than the first m colourings
moments_front : {X Y : Type 0} (occurred : X → ℕ) (moment : List (List Cell) → X → Y) (h : List (List Cell)) (m : ℕ) (steps : List X) → ((k : ℕ) (d : X) → k < length steps → occurred (get_or steps k d) ≤ m) → map (λ s. moment (take (occurred s) h) s) steps ≡ map (λ s. moment (take (occurred s) (take m h)) s) steps
moments_front occurred moment h m [] within = refl
moments_front occurred moment h m (x ∷ xs) within =
    λ i. moment (sym (take-take (occurred x) m h (within 0 x (omega arith))) i) x ∷ moments_front occurred moment h m xs (λ k d on. within (suc k) d (omega arith)) i

-- the moments before the last step, and that of the last step, the latest first
pub earlier_split : {X Y : Type 0} (occurred : X → ℕ) (moment : List (List Cell) → X → Y) (whole left : List (List Cell)) (all steps : List X) (x : X) → all ≡ steps ++ x ∷ [] → left ≡ take (occurred x) whole → ((k : ℕ) (d : X) → k < length steps → occurred (get_or steps k d) ≤ occurred x)
    → reverse (map (λ s. moment (take (occurred s) whole) s) all) ≡ moment left x ∷ reverse (map (λ s. moment (take (occurred s) left) s) steps)
earlier_split {X} {Y} occurred moment whole left all steps x split front below =
    let at : List (List Cell) → X → Y = λ h s. moment (take (occurred s) h) s in
    ap (λ xs. reverse (map (at whole) xs)) split
    ∙ ap reverse (map-append (at whole) steps (x ∷ []))
    ∙ reverse-append (map (at whole) steps) (at whole x ∷ [])
    ∙ ap (λ zs. at whole x ∷ reverse zs) (moments_front occurred moment whole (occurred x) steps below)
    ∙ ap (λ h. moment h x ∷ reverse (map (at h) steps)) (sym front)

-- a step that keeps the present colouring joins those before it
pub fit_kept : (h : List (List Cell)) (c : List Cell) (steps : List Step) (x : Step) → x.occurred ≡ length h → IsAt h x.place c → first_without_liberty (side_of c) c ≡ None → x.passes ≤ length steps + 2
    → StepsFit (λ (s : Step). s.occurred) (λ (s : Step). s.place) (λ (s : Step). s.passes) (side_of c) h steps → StepsFit (λ (s : Step). s.occurred) (λ (s : Step). s.place) (λ (s : Step). s.passes) (side_of c) h (steps ++ x ∷ [])
fit_kept h c steps x whole at free few fit = fit_push (λ (s : Step). s.occurred) (λ (s : Step). s.place) (λ (s : Step). s.passes) (side_of c) h steps x whole (can_stand h x.place c at free) few fit
