-- Loops over what a set holds, and over the points beside a point.
use Rattle.pass_alive.proofs.Common.{◌≡◌, ℕ, ◌+◌, ◌<◌, ◌≤◌, ◌⊎◌, inl, inr, true, IsTrue, List, [], ◌∷◌, length, map, take, get_or, refl, sym, ◌∙◌, ap, subst, All, take_all, adjacent, neighbours, Place, IsOn, number_of, same_place, holds_place, same_place_decides, or_cases, or_left, or_right, neighbours_member, item_beside}
use Rattle.go_chains.specs.Private.Chains.{IsIn}
use Rattle.go_chains.proofs.Beside.{in_more}
use Rattle.go_chains.proofs.Counts.{member_in}

-- the first of what is left, and the rest
module _ (left rest : List Place) (x : Place) (e : left ≡ x ∷ rest) where
  pub left_first : IsTrue (holds_place left x)
  left_first = ap (λ s. holds_place s x) e ∙ or_left (same_place x x) (holds_place rest x) ((same_place_decides x x).1 refl)

  pub left_later : (p : Place) → IsTrue (holds_place rest p) → IsTrue (holds_place left p)
  left_later p held = ap (λ s. holds_place s p) e ∙ or_right (same_place p x) (holds_place rest p) held

  pub left_either : (p : Place) → IsTrue (holds_place left p) → (p ≡ x) ⊎ IsTrue (holds_place rest p)
  left_either p held = elim (or_cases (same_place p x) (holds_place rest p) (sym (ap (λ s. holds_place s p) e) ∙ held)) [
    | inl same ↦ inl ((same_place_decides p x).0 same)
    | inr later ↦ inr later
  ]

-- what has been said of all that the set holds but what is left
pub record AllBut (P : Place → Type 0) (set left : List Place) : Type 0 where
  pub among : (p : Place) → IsTrue (holds_place left p) → IsTrue (holds_place set p)
  pub passed : (p : Place) → IsTrue (holds_place set p) → IsTrue (holds_place left p) ⊎ P p

module _ (P : Place → Type 0) (set : List Place) where
  pub but_first : (left : List Place) → left ≡ set → AllBut P set left
  but_first left e = record {
    among = λ p held. sym (ap (λ s. holds_place s p) e) ∙ held;
    passed = λ p held. inl (ap (λ s. holds_place s p) e ∙ held);
  }

  pub but_item : (left rest : List Place) (x : Place) → left ≡ x ∷ rest → AllBut P set left → IsTrue (holds_place set x)
  but_item left rest x e h = h.among x (left_first left rest x e)

  pub but_fact : (F : Place → Type 0) → ((p : Place) → IsTrue (holds_place set p) → F p) → (left rest : List Place) (x : Place) → left ≡ x ∷ rest → AllBut P set left → F x
  but_fact F all left rest x e h = all x (but_item left rest x e h)

  pub but_more : (left rest : List Place) (x : Place) → left ≡ x ∷ rest → P x → AllBut P set left → AllBut P set rest
  but_more left rest x e here h = record {
    among = λ p held. h.among p (left_later left rest x e p held);
    passed = λ p held. elim (h.passed p held) [
      | inl still ↦ elim (left_either left rest x e p still) [ inl same ↦ inr (subst P (sym same) here) | inr later ↦ inl later ]
      | inr done ↦ inr done
    ];
  }

  pub but_none : (left : List Place) → left ≡ [] → AllBut P set left → (p : Place) → IsTrue (holds_place set p) → P p
  but_none left e h p held = elim (h.passed p held) [
    | inl still ↦ absurd (cc (still, e))
    | inr done ↦ done
  ]

-- what has been said of the first i of the points beside the point p
abbrev pub AllBeside : ℕ → (ℕ → Type 0) → List Place → ℕ → Type 0
AllBeside n P items i = (q : ℕ) → IsIn q (map (number_of n) (take i items)) → P q

module _ (n : ℕ) (P : ℕ → Type 0) (items : List Place) where
  pub beside_first : AllBeside n P items 0
  beside_first q m = absurd m

  pub beside_more : (i : ℕ) (x : Place) → i < length items → x ≡ get_or items i x → P (number_of n x) → AllBeside n P items i → AllBeside n P items (i + 1)
  beside_more i x low is here h q m = elim (in_more (number_of n) items i x low is q m) [
    | inl before ↦ h q before
    | inr same ↦ subst P (sym same) here
  ]

  pub beside_all : (i p : ℕ) → length items ≤ i → map (number_of n) items ≡ neighbours n p → AllBeside n P items i → (q : ℕ) → IsTrue (adjacent n p q) → P q
  beside_all i p past those h q adj =
      let m : IsIn q (map (number_of n) items) = subst (IsIn q) (sym those) (member_in q (neighbours n p) (neighbours_member n p q adj)) in
      h q (subst (λ (l : List Place). IsIn q (map (number_of n) l)) (sym (take_all i items past)) m)

-- the points beside a point, as the code has them
module _ (n m : ℕ) (same : m ≡ n) (point : Place) (found items : List Place) (value : items ≡ found) where
  pub beside_those : map (number_of m) found ≡ neighbours m (number_of m point) → map (number_of n) items ≡ neighbours n (number_of n point)
  beside_those exact = ap (map (number_of n)) value ∙ subst (λ (k : ℕ). map (number_of k) found ≡ neighbours k (number_of k point)) same exact

  pub beside_on : All (IsOn m) found → (i : ℕ) (x : Place) → i < length items → x ≡ get_or items i x → IsOn n x
  beside_on on i x low is =
      let inside : All (IsOn n) items = subst (λ (l : List Place). All (IsOn n) l) (sym value) (subst (λ (k : ℕ). All (IsOn k) found) same on) in
      subst (IsOn n) (sym is) (inside i x low)

  -- a point beside it is on the board, and adjacent
  pub beside_item : map (number_of m) found ≡ neighbours m (number_of m point) → All (IsOn m) found → (i : ℕ) (x : Place) → i < length items → x ≡ get_or items i x
      → IsOn n x × (adjacent n (number_of n point) (number_of n x) ≡ true)
  beside_item exact on i x low is = (beside_on on i x low is, item_beside (number_of n) items i x low is n (number_of n point) (beside_those exact))
