-- Points are taken out of a set, or put in, one by one.
use Rattle.pass_alive.proofs.Common.{◌≡◌, ◌<◌, ◌≤◌, Bool, true, false, cond, not, ◌||◌, ◌⊎◌, inl, inr, IsTrue, IsFalse, List, [], ◌∷◌, length, refl, sym, ◌∙◌, ap, subst, arith, Place, same_place, holds_place, with_place, without_place, same_place_decides, sets_gain, sets_lose, and_left, and_right, and_both, or_cases, or_left, or_right, IsWith}
use Rattle.pass_alive.specs.Private.Areas.{IsWithout}
use Rattle.pass_alive.proofs.Members.{left_first, left_later, left_either}

-- a set that loses a place that it held is smaller
without_fewer : (ps : List Place) (p : Place) → length (without_place ps p) ≤ length ps
without_fewer [] p = omega arith
without_fewer (q ∷ qs) p = go (same_place p q) refl (without_fewer qs p)
  where
    go : (b : Bool) → same_place p q ≡ b → length (without_place qs p) ≤ length qs → length (cond (not b) (q ∷ without_place qs p) (without_place qs p)) ≤ length (q ∷ qs)
    go true e rest = grind (arith, rest)
    go false e rest = grind (arith, rest)

pub without_less : (ps : List Place) (p : Place) → holds_place ps p ≡ true → length (without_place ps p) < length ps
without_less [] p h = absurd (cc h)
without_less (q ∷ qs) p h = go (same_place p q) refl h (without_less qs p)
  where
    go : (b : Bool) → same_place p q ≡ b → (b || holds_place qs p) ≡ true → (holds_place qs p ≡ true → length (without_place qs p) < length qs) → length (cond (not b) (q ∷ without_place qs p) (without_place qs p)) < length (q ∷ qs)
    go true e held rest = grind (arith, without_fewer qs p)
    go false e held rest = grind (arith, rest held)

pub is_false : (b : Bool) → (IsTrue b → ⊥) → IsFalse b
is_false true never = absurd (never refl)
is_false false never = refl

-- the points of another set are taken out of a set, or put in, one by one
module _ (other old : List Place) where
  pub record TakenSoFar (now left : List Place) : Type 0 where
    pub within : (p : Place) → IsTrue (holds_place now p) → IsTrue (holds_place old p)
    pub kept : (p : Place) → IsFalse (holds_place other p) → IsTrue (holds_place old p) → IsTrue (holds_place now p)
    pub among : (p : Place) → IsTrue (holds_place left p) → IsTrue (holds_place other p)
    pub gone : (p : Place) → IsTrue (holds_place old p) → IsTrue (holds_place now p) ⊎ (length now < length old)
    pub away : (p : Place) → IsTrue (holds_place other p) → IsTrue (holds_place left p) ⊎ IsFalse (holds_place now p)
    pub shorter : length now ≤ length old
    pub fewer : (p : Place) → IsTrue (holds_place other p) → IsTrue (holds_place old p) → IsTrue (holds_place left p) ⊎ (length now < length old)

  pub taken_first : (left : List Place) → left ≡ other → TakenSoFar old left
  taken_first left e = record {
    within = λ p held. held;
    kept = λ p not_other held. held;
    among = λ p held. sym (ap (λ s. holds_place s p) e) ∙ held;
    gone = λ p held. inl held;
    away = λ p is. inl (ap (λ s. holds_place s p) e ∙ is);
    shorter = omega arith;
    fewer = λ p is held. inl (ap (λ s. holds_place s p) e ∙ is);
  }

  pub taken_more : (now left rest : List Place) (x : Place) → left ≡ x ∷ rest → TakenSoFar now left → TakenSoFar (without_place now x) rest
  taken_more now left rest x e h = record {
    within = λ p held. h.within p (and_right (not (same_place p x)) _ (sym (sets_lose now x p) ∙ held));
    kept = λ p not_other held. stays p (λ same. cc (h.among x (left_first left rest x e), not_other, ap (holds_place other) same)) (h.kept p not_other held);
    among = λ p held. h.among p (left_later left rest x e p held);
    gone = gone;
    away = λ p is. elim (h.away p is) [
      | inl still ↦ elim (left_either left rest x e p still) [
        | inl same ↦ inr (none p (λ held. cc (kept_apart p held, is_same p same)))
        | inr later ↦ inl later
      ]
      | inr before ↦ inr (none p (λ held. cc (and_right (not (same_place p x)) _ (sym (sets_lose now x p) ∙ held), before)))
    ];
    shorter = omega (arith, without_fewer now x, h.shorter);
    fewer = λ p is held. elim (h.fewer p is held) [
      | inl still ↦ elim (left_either left rest x e p still) [ inl same ↦ inr (here p same held) | inr later ↦ inl later ]
      | inr less ↦ inr (lower less)
    ];
  }
    where
      none : (p : Place) → (IsTrue (holds_place (without_place now x) p) → ⊥) → IsFalse (holds_place (without_place now x) p)
      none p never = is_false (holds_place (without_place now x) p) never

      is_same : (p : Place) → p ≡ x → not (same_place p x) ≡ false
      is_same p same = ap not ((same_place_decides p x).1 same)

      kept_apart : (p : Place) → IsTrue (holds_place (without_place now x) p) → IsTrue (not (same_place p x))
      kept_apart p held = and_left (not (same_place p x)) _ (sym (sets_lose now x p) ∙ held)

      lower : length now < length old → length (without_place now x) < length old
      lower less = omega (arith, less, without_fewer now x)

      stays : (p : Place) → (p ≡ x → ⊥) → IsTrue (holds_place now p) → IsTrue (holds_place (without_place now x) p)
      stays p ne held = sets_lose now x p ∙ and_both _ _ (apart (same_place p x) refl) held
        where
          apart : (b : Bool) → same_place p x ≡ b → not (same_place p x) ≡ true
          apart true same = absurd (ne ((same_place_decides p x).0 same))
          apart false other_place = ap not other_place

      took : holds_place now x ≡ true → length (without_place now x) < length old
      took there = omega (arith, without_less now x there, h.shorter)

      here : (p : Place) → p ≡ x → IsTrue (holds_place old p) → length (without_place now x) < length old
      here p same held = elim (h.gone p held) [
        | inl there ↦ took (sym (ap (holds_place now) same) ∙ there)
        | inr less ↦ lower less
      ]

      gone : (p : Place) → IsTrue (holds_place old p) → IsTrue (holds_place (without_place now x) p) ⊎ (length (without_place now x) < length old)
      gone p held = go (holds_place now x) refl
        where
          go : (b : Bool) → holds_place now x ≡ b → IsTrue (holds_place (without_place now x) p) ⊎ (length (without_place now x) < length old)
          go true there = inr (took there)
          go false not_there = elim (h.gone p held) [
            | inl still ↦ inl (stays p (λ same. cc (still, not_there, ap (holds_place now) same)) still)
            | inr less ↦ inr (lower less)
          ]

  pub taken_all : (now left : List Place) → left ≡ [] → TakenSoFar now left → IsWithout other old now
  taken_all now left e h = record {
    within = h.within;
    kept = h.kept;
    gone = λ p is. elim (h.away p is) [ inl still ↦ absurd (cc (still, e)) | inr none ↦ none ];
    shorter = h.shorter;
    fewer = λ p is held. elim (h.fewer p is held) [ inl still ↦ absurd (cc (still, e)) | inr less ↦ less ];
  }

  pub record PutSoFar (now left : List Place) : Type 0 where
    pub kept : (p : Place) → IsTrue (holds_place old p) → IsTrue (holds_place now p)
    pub among : (p : Place) → IsTrue (holds_place left p) → IsTrue (holds_place other p)
    pub added : (p : Place) → IsTrue (holds_place other p) → IsTrue (holds_place left p) ⊎ IsTrue (holds_place now p)
    pub most : (p : Place) → IsTrue (holds_place now p) → IsTrue (holds_place old p) ⊎ IsTrue (holds_place other p)

  pub put_first : (left : List Place) → left ≡ other → PutSoFar old left
  put_first left e = record {
    kept = λ p held. held;
    among = λ p held. sym (ap (λ s. holds_place s p) e) ∙ held;
    added = λ p is. inl (ap (λ s. holds_place s p) e ∙ is);
    most = λ p held. inl held;
  }

  pub put_more : (now left rest : List Place) (x : Place) → left ≡ x ∷ rest → PutSoFar now left → PutSoFar (with_place now x) rest
  put_more now left rest x e h = record {
    kept = λ p held. had p (h.kept p held);
    among = λ p held. h.among p (left_later left rest x e p held);
    added = λ p is. elim (h.added p is) [
      | inl still ↦ elim (left_either left rest x e p still) [
        | inl same ↦ inr (sets_gain now x p ∙ or_left (same_place p x) (holds_place now p) ((same_place_decides p x).1 same))
        | inr later ↦ inl later
      ]
      | inr there ↦ inr (had p there)
    ];
    most = λ p held. elim (or_cases (same_place p x) (holds_place now p) (sym (sets_gain now x p) ∙ held)) [
      | inl same ↦ inr (subst (λ z. IsTrue (holds_place other z)) (sym ((same_place_decides p x).0 same)) (h.among x (left_first left rest x e)))
      | inr before ↦ h.most p before
    ];
  }
    where
      had : (p : Place) → IsTrue (holds_place now p) → IsTrue (holds_place (with_place now x) p)
      had p held = sets_gain now x p ∙ or_right (same_place p x) (holds_place now p) held

  pub put_all : (now left : List Place) → left ≡ [] → PutSoFar now left → IsWith other old now
  put_all now left e h = record {
    kept = h.kept;
    added = λ p is. elim (h.added p is) [ inl still ↦ absurd (cc (still, e)) | inr there ↦ there ];
    most = h.most;
  }
