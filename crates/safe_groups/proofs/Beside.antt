-- Loops over the points beside a point, and sets of stones that wait to be looked at.
use Rattle.safe_groups.proofs.Common.{◌≡◌, ◌≢◌, ℕ, ◌<◌, ◌≤◌, ◌⊎◌, inl, inr, IsTrue, List, Cell, length, map, get_or, sym, ◌∙◌, ap, subst, All, adjacent, cell_at, Place, number_of, holds_place, Joined, joined_self, joined_beside, reaches_beside, Reaches, Empty, ◌+◌, true, false, not, [], ◌∷◌, Some, IsOn, and_right, or_cases, or_left, IsNext, AreJoined, same_place, with_place, sets_gain, same_place_decides}
use Rattle.std.proofs.Common.{take}
use Rattle.std.proofs.lemmas.List.{take_all}
use Rattle.go_points.specs.Grid.{neighbours}
use Rattle.go_points.specs.Points.{first_place, without_place}
use Rattle.go_points.proofs.Cells.{neighbours_member}
use Rattle.go_points.proofs.Membership.{sets_lose}
use Rattle.go_chains.specs.Private.Chains.{IsIn}
use Rattle.go_chains.proofs.Beside.{in_more, item_beside}
use Rattle.go_chains.proofs.Counts.{member_in}

-- what has been said of the first i of the points beside a point
abbrev pub AllBeside : ℕ → (ℕ → Type 0) → List Place → ℕ → Type 0
AllBeside n P items i = (q : ℕ) → IsIn q (map (number_of n) (take i items)) → P q

module _ (n : ℕ) (P : ℕ → Type 0) (items : List Place) where
  pub beside_first : AllBeside n P items 0
  beside_first q m = absurd m

  pub beside_more : (i : ℕ) (x : Place) → i < length items → x ≡ get_or items i x → P (number_of n x) → AllBeside n P items i → AllBeside n P items (i + 1)
  beside_more i x low is here h q m = elim (in_more (number_of n) items i x low is q m) [
    | inl before ↦ h q before
    | inr same ↦ subst P (sym same) here
  ]

  pub beside_all : (i p : ℕ) → length items ≤ i → map (number_of n) items ≡ neighbours n p → AllBeside n P items i → (q : ℕ) → IsTrue (adjacent n p q) → P q
  beside_all i p past those h q adj =
      let m : IsIn q (map (number_of n) items) = subst (IsIn q) (sym those) (member_in q (neighbours n p) (neighbours_member n p q adj)) in
      h q (subst (λ (l : List Place). IsIn q (map (number_of n) l)) (sym (take_all i items past)) m)

-- the points beside the point of this number, as a loop has them
module _ (n m p : ℕ) (same : m ≡ n) (point : Place) (at : number_of m point ≡ p) (found items : List Place) (value : items ≡ found) (exact : map (number_of m) found ≡ neighbours m (number_of m point)) (on : All (IsOn m) found) where
  pub beside_those : map (number_of n) items ≡ neighbours n p
  beside_those = ap (map (number_of n)) value ∙ subst (λ (k : ℕ). map (number_of k) found ≡ neighbours k p) same (exact ∙ ap (neighbours m) at)

  pub beside_on : (i : ℕ) (x : Place) → i < length items → x ≡ get_or items i x → IsOn n x
  beside_on i x low is =
      let inside : All (IsOn n) items = subst (λ (l : List Place). All (IsOn n) l) (sym value) (subst (λ (k : ℕ). All (IsOn k) found) same on) in
      subst (IsOn n) (sym is) (inside i x low)

  pub beside_adjacent : (i : ℕ) (x : Place) → i < length items → x ≡ get_or items i x → adjacent n p (number_of n x) ≡ true
  beside_adjacent i x low is = item_beside (number_of n) items i x low is n p beside_those

-- More stones wait: those that did, and some beside the stone p.
module _ (n : ℕ) (c : List Cell) (p : ℕ) (old : List Place) where
  abbrev pub HasMore : List Place → Type 0
  HasMore new = (q : Place) → IsTrue (holds_place new q) → IsTrue (holds_place old q) ⊎ IsNext n c p q

  pub more_one : (new : List Place) (x : Place) → IsNext n c p x → HasMore new → HasMore (with_place new x)
  more_one new x next more q held = elim (or_cases (same_place q x) (holds_place new q) (sym (sets_gain new x q) ∙ held)) [
    | inl same ↦ inr (subst (IsNext n c p) (sym ((same_place_decides q x).0 same)) next)
    | inr had ↦ more q had
  ]

pub more_at : (n m : ℕ) (c : List Cell) (x : Place) (now old new : List Place) → m ≡ n → old ≡ without_place now x → HasMore m c (number_of m x) old new → HasMore n c (number_of n x) (without_place now x) new
more_at n m c x now old new same is more = subst (λ k. HasMore k c (number_of k x) (without_place now x) new) same (subst (λ l. HasMore m c (number_of m x) l new) is more)

-- a joined stone beside an empty point
pub empty_found : (n m : ℕ) (c : List Cell) (p : ℕ) (x : Place) → m ≡ n → cell_at c p ≢ Empty → Joined n c p (number_of n x) → ((e : ℕ) × IsTrue (adjacent m (number_of m x) e) × (cell_at c e ≡ Empty)) → Reaches n c p Empty
empty_found n m c p x same some joined found =
    let there = subst (λ k. (e : ℕ) × IsTrue (adjacent k (number_of k x) e) × (cell_at c e ≡ Empty)) same found in
    reaches_beside n c p (number_of n x) there.0 some joined there.1 there.2

-- the first of a set is of it
pub first_held : (s : List Place) (x : Place) → first_place s ≡ Some x → IsTrue (holds_place s x)
first_held [] x e = absurd (cc e)
first_held (y ∷ ys) x e = or_left (same_place x y) (holds_place ys x) ((same_place_decides x y).1 (cc e))

-- Those that wait are joined to the stone p.
module _ (n : ℕ) (c : List Cell) (p : ℕ) where
  pub joined_first : (x : Place) → IsOn n x → number_of n x ≡ p → AreJoined n c p (with_place [] x)
  joined_first x on here q held = elim (or_cases (same_place q x) false (sym (sets_gain [] x q) ∙ held)) [
    | inl same ↦
        let is : q ≡ x = (same_place_decides q x).0 same in
        (subst (IsOn n) (sym is) on, subst (Joined n c p) (sym (ap (number_of n) is ∙ here)) (joined_self n c p))
    | inr none ↦ absurd (cc none)
  ]

  -- one of them is taken out, and those beside it come in
  pub joined_more : (now new : List Place) (x : Place) → first_place now ≡ Some x → AreJoined n c p now → HasMore n c (number_of n x) (without_place now x) new → AreJoined n c p new
  joined_more now new x first all more q held =
      let at = all x (first_held now x first) in
      elim (more q held) [
        | inl had ↦ all q (and_right (not (same_place q x)) (holds_place now q) (sym (sets_lose now x q) ∙ had))
        | inr next ↦ (next.0, joined_beside n c p (number_of n x) (number_of n q) at.1 next.1 next.2)
      ]
