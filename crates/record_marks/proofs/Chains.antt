-- The stones of the chains of some points, gathered one point after the other.
use Rattle.std.proofs.Common.{◌≡◌, ℕ, ◌+◌, ◌*◌, ◌<◌, ◌≤◌, ◌⊎◌, inl, inr, Bool, true, false, ◌||◌, IsTrue, IsFalse, ◌↔◌, eqb-true, eq-eqb, List, [], refl, sym, ◌∙◌, ap, subst, arith}
use Rattle.go_points.specs.declared.Cell.{Cell}
use Rattle.go_points.specs.declared.Cell.TheVariants.{Empty}
use Rattle.go_points.specs.Grid.{same_cell, cell_at}
use Rattle.go_points.specs.Place.{Place, place_of}
use Rattle.go_points.specs.Points.{same_place, holds_place, with_place}
use Rattle.go_points.specs.Private.Inverses.{same_numbers}
use Rattle.go_points.proofs.Membership.{sets_gain}
use Rattle.go_points.proofs.Lists.{or_cases, or_left, or_right}
use Rattle.go_chains.specs.Joined.{Joined, IsChainOf}
use Rattle.record_marks.specs.Private.Sets.{HoldsBoth}

module _ (n : ℕ) (c : List Cell) (named : List Place) where
  abbrev pub WholeSoFar : List Place → ℕ → Type 0
  WholeSoFar whole i =
      (p : ℕ) → p < n * n → IsTrue (holds_place whole (place_of n p))
      ↔ ((t : ℕ) × (t < i) × IsTrue (holds_place named (place_of n t)) × IsFalse (same_cell (cell_at c t) Empty) × Joined n c t p)

  pub whole_none : WholeSoFar [] 0
  whole_none p on = (λ h. absurd (cc h), λ w. absurd (omega (arith, w.1)))

  -- a point that is not named, or that holds no stone
  pub whole_skip : (whole : List Place) (i : ℕ) → (IsTrue (holds_place named (place_of n i)) → IsFalse (same_cell (cell_at c i) Empty) → ⊥) → WholeSoFar whole i → WholeSoFar whole (i + 1)
  whole_skip whole i none h p on = (
    λ held. let w = (h p on).0 held in (w.0, omega (arith, w.1), w.2, w.3, w.4),
    λ w.
        let split : (w.0 < i) ⊎ (w.0 ≡ i) = grind (arith, w.1) in
        elim split [
          | inl less ↦ (h p on).1 (w.0, less, w.2, w.3, w.4)
          | inr here ↦ absurd (none (subst (λ t. IsTrue (holds_place named (place_of n t))) here w.2) (subst (λ t. IsFalse (same_cell (cell_at c t) Empty)) here w.3))
        ],
  )

  -- a stone that is named
  pub whole_more : (whole chain all : List Place) (i : ℕ) → IsTrue (holds_place named (place_of n i)) → IsFalse (same_cell (cell_at c i) Empty) → IsChainOf n c i chain → HoldsBoth n whole chain all → WholeSoFar whole i → WholeSoFar all (i + 1)
  whole_more whole chain all i is stone of both h p on = (
    λ held. elim (or_cases (holds_place whole (place_of n p)) (holds_place chain (place_of n p)) (sym (both p on) ∙ held)) [
      | inl before ↦ (let w = (h p on).0 before in (w.0, omega (arith, w.1), w.2, w.3, w.4))
      | inr new ↦ (i, omega arith, is, stone, (of.joined p on).0 new)
    ],
    λ w.
        let split : (w.0 < i) ⊎ (w.0 ≡ i) = grind (arith, w.1) in
        elim split [
          | inl less ↦ both p on ∙ or_left (holds_place whole (place_of n p)) (holds_place chain (place_of n p)) ((h p on).1 (w.0, less, w.2, w.3, w.4))
          | inr here ↦ both p on ∙ or_right (holds_place whole (place_of n p)) (holds_place chain (place_of n p)) ((of.joined p on).1 (subst (λ t. Joined n c t p) here w.4))
        ],
  )

-- points are put into a set, one after the other
module _ (n : ℕ) (first second : List Place) where
  pub record BothSoFar (all : List Place) (i : ℕ) : Type 0 where
    pub kept : (q : ℕ) → q < n * n → IsTrue (holds_place first (place_of n q)) → IsTrue (holds_place all (place_of n q))
    pub added : (q : ℕ) → q < i → IsTrue (holds_place second (place_of n q)) → IsTrue (holds_place all (place_of n q))
    pub most : (q : ℕ) → q < n * n → IsTrue (holds_place all (place_of n q)) → IsTrue (holds_place first (place_of n q)) ⊎ IsTrue (holds_place second (place_of n q))

  pub both_first : BothSoFar first 0
  both_first = record { kept = λ q on held. held; added = λ q low. absurd (omega (arith, low)); most = λ q on held. inl held }

  pub both_no : (all : List Place) (i : ℕ) → IsFalse (holds_place second (place_of n i)) → BothSoFar all i → BothSoFar all (i + 1)
  both_no all i not_second h = record {
    kept = h.kept;
    added = λ q low is.
        let split : (q < i) ⊎ (q ≡ i) = grind (arith, low) in
        elim split [
          | inl less ↦ h.added q less is
          | inr here ↦ absurd (cc (is, not_second, ap (λ z. holds_place second (place_of n z)) here))
        ];
    most = h.most;
  }

  pub both_yes : (all : List Place) (i : ℕ) → IsTrue (holds_place second (place_of n i)) → BothSoFar all i → BothSoFar (with_place all (place_of n i)) (i + 1)
  both_yes all i there h = record {
    kept = λ q on held. had q (h.kept q on held);
    added = λ q low is.
        let split : (q < i) ⊎ (q ≡ i) = grind (arith, low) in
        elim split [
          | inl less ↦ had q (h.added q less is)
          | inr here ↦ sets_gain all (place_of n i) (place_of n q) ∙ or_left (same_place (place_of n q) (place_of n i)) (holds_place all (place_of n q)) (same_numbers n q i ∙ eq-eqb q i here)
        ];
    most = λ q on held. elim (or_cases (same_place (place_of n q) (place_of n i)) (holds_place all (place_of n q)) (sym (sets_gain all (place_of n i) (place_of n q)) ∙ held)) [
      | inl same ↦ inr (subst (λ z. IsTrue (holds_place second (place_of n z))) (sym (eqb-true q i (sym (same_numbers n q i) ∙ same))) there)
      | inr before ↦ h.most q on before
    ];
  }
    where
      had : (q : ℕ) → IsTrue (holds_place all (place_of n q)) → IsTrue (holds_place (with_place all (place_of n i)) (place_of n q))
      had q held = sets_gain all (place_of n i) (place_of n q) ∙ or_right (same_place (place_of n q) (place_of n i)) (holds_place all (place_of n q)) held

  pub both_all : (all : List Place) (i : ℕ) → n * n ≤ i → BothSoFar all i → HoldsBoth n first second all
  both_all all i whole h q on = by (holds_place all (place_of n q)) (holds_place first (place_of n q)) (holds_place second (place_of n q)) (h.kept q on) (h.added q (omega (arith, on, whole))) (h.most q on)
    where
      by : (a b d : Bool) → (IsTrue b → IsTrue a) → (IsTrue d → IsTrue a) → (IsTrue a → IsTrue b ⊎ IsTrue d) → a ≡ (b || d)
      by a true d kept added most = kept refl
      by a false true kept added most = added refl
      by true false false kept added most = elim (most refl) [ inl e ↦ sym e | inr e ↦ sym e ]
      by false false false kept added most = refl
