-- Targets that stand in one colouring stand in another exactly if the two do not differ at any of them.
use Rattle.target_game.proofs.Common.{◌≡◌, ◌≢◌, ℕ, suc, ◌+◌, ◌*◌, ◌<◌, ◌≤◌, nat_eq, nat_lt, ltb-true, lt-ltb, eqb-true, eq-eqb, Bool, true, false, not, inl, inr, IsTrue, List, [], ◌∷◌, refl, sym, ◌∙◌, ap, subst, arith, All, list_all, map, kept_game, Game, Cell, Colour, Stone, same_cell, cell_at, same_cell_eq, Place, IsOn, number_of, place_of, same_place, holds_place, side_of-whole, and_left, and_right, and_both}
use Rattle.std.proofs.Common.{IsFalse}
use Rattle.go_points.specs.Equal.{same_place_decides}
use Rattle.go_points.proofs.Lists.{or_cases, or_left, or_right}
use Rattle.go_points.proofs.Sides.{number_below}
use Rattle.go_points.proofs.Cells.{eq_same_cell}
use Rattle.go_turns.proofs.Openings.{place_back}
use Rattle.target_game.specs.State.{GameProblem, start}
use Rattle.target_game.specs.Laws.{IsProblem}
use Rattle.target_game.specs.Private.Stand.{StandIn}
use Rattle.target_game.proofs.Playing.{stand_is}

-- the targets of a problem stand in its present colouring
pub begins : (q : GameProblem) → IsProblem q → StandIn q.game (start q).colouring
begins q f = record { size = side_of-whole (start q).colouring q.game.size (f.sizes q.place [] f.present); stand = f.stones }

-- the same of a game by its parts
pub stand_kept : (game : Game) (n : ℕ) (targets region : List Place) (k : Colour) (c : List Cell) → n ≡ game.size → map (number_of game.size) targets ≡ game.targets → k ≡ game.defender → StandIn game c → StandIn (kept_game n targets k region) c
stand_kept game n targets region k c size those defender h = record {
  size = h.size ∙ sym size;
  stand = subst (λ (j : Colour). IsTrue (list_all (λ p. same_cell (cell_at c p) (Stone j)) (map (number_of n) targets))) (sym defender)
      (subst (λ (l : List ℕ). IsTrue (list_all (λ p. same_cell (cell_at c p) (Stone game.defender)) l)) (sym (ap (λ (m : ℕ). map (number_of m) targets) size ∙ those)) h.stand);
}

-- before a number two colourings of n rows do not differ at any of the points, and at it they differ
pub record SameSoFar (n : ℕ) (c d : List Cell) (points : List Place) (number : ℕ) : Type 0 where
  pub same : (i : ℕ) → i < number → IsTrue (holds_place points (place_of n i)) → cell_at c i ≡ cell_at d i
  pub differs : number < n * n → cell_at c number ≢ cell_at d number

module _ (n : ℕ) (c d : List Cell) (points : List Place) where
  pub same_first : (number : ℕ) → ((i : ℕ) → 0 ≤ i → i < number → cell_at c i ≡ cell_at d i) → (number < n * n → cell_at c number ≢ cell_at d number) → SameSoFar n c d points number
  same_first number same differs = record { same = λ i low held. same i (omega arith) low; differs = differs }

  pub same_more : (number next : ℕ) → IsFalse (holds_place points (place_of n number)) → SameSoFar n c d points number
      → ((i : ℕ) → number + 1 ≤ i → i < next → cell_at c i ≡ cell_at d i) → (next < n * n → cell_at c next ≢ cell_at d next) → SameSoFar n c d points next
  same_more number next out h same differs = record {
    same = λ i low held. go i low held (nat_lt i number) refl (nat_eq i number) refl;
    differs = differs;
  }
    where
      go : (i : ℕ) → i < next → IsTrue (holds_place points (place_of n i)) → (before : Bool) → nat_lt i number ≡ before → (here : Bool) → nat_eq i number ≡ here → cell_at c i ≡ cell_at d i
      go i low held true e here f = h.same i (ltb-true i number e) held
      go i low held false e true f = absurd (cc (held, out, ap (λ (j : ℕ). holds_place points (place_of n j)) (eqb-true i number f)))
      go i low held false e false f =
          let not_before : i < number → ⊥ = λ less. cc (lt-ltb i number less, e) in
          let not_here : i ≡ number → ⊥ = λ is. cc (eq-eqb i number is, f) in
          same i (omega (arith, not_before, not_here)) low

  pub same_all : (number : ℕ) → n * n ≤ number → SameSoFar n c d points number → (p : Place) → IsOn n p → IsTrue (holds_place points p) → cell_at c (number_of n p) ≡ cell_at d (number_of n p)
  same_all number past h p on held =
      h.same (number_of n p) (let low : number_of n p < n * n = number_below n p on in omega (arith, low, past)) (ap (holds_place points) (place_back n p on) ∙ held)

-- whether each of the points holds a stone of the colour
abbrev holds_stone : ℕ → Colour → List Cell → Place → Bool
holds_stone n k c p = same_cell (cell_at c (number_of n p)) (Stone k)

held_first : (p : Place) (ps : List Place) → IsTrue (holds_place (p ∷ ps) p)
held_first p ps = or_left (same_place p p) (holds_place ps p) ((same_place_decides p p).1 refl)

held_later : (p q : Place) (ps : List Place) → IsTrue (holds_place ps q) → IsTrue (holds_place (p ∷ ps) q)
held_later p q ps held = or_right (same_place q p) (holds_place ps q) held

-- all that are held pass
pub passes_held : (f : Place → Bool) (ps : List Place) → list_all f ps ≡ true → (q : Place) → IsTrue (holds_place ps q) → f q ≡ true
passes_held f [] all q held = absurd (cc held)
passes_held f (p ∷ ps) all q held = elim (or_cases (same_place q p) (holds_place ps q) held) [
  | inl same ↦ ap f ((same_place_decides q p).0 same) ∙ and_left (f p) (list_all f ps) all
  | inr later ↦ passes_held f ps (and_right (f p) (list_all f ps) all) q later
]

all_pass : (f : Place → Bool) (n : ℕ) (ps : List Place) → All (IsOn n) ps → ((q : Place) → IsOn n q → IsTrue (holds_place ps q) → f q ≡ true) → list_all f ps ≡ true
all_pass f n [] on each = refl
all_pass f n (p ∷ ps) on each =
    and_both (f p) (list_all f ps) (each p (on 0 p (omega arith)) (held_first p ps))
    (all_pass f n ps (λ k d low. on (suc k) d (omega (arith, low))) (λ q q_on held. each q q_on (held_later p q ps held)))

-- two colourings, in the first of which the targets stand
module _ (n : ℕ) (points : List Place) (k : Colour) (region : List Place) (begin c : List Cell) (stood : StandIn (kept_game n points k region) begin) where
  stood_there : (p : Place) → IsTrue (holds_place points p) → cell_at begin (number_of n p) ≡ Stone k
  stood_there p held = same_cell_eq (cell_at begin (number_of n p)) (Stone k) (passes_held (holds_stone n k begin) points (sym (stand_is n begin k points) ∙ stood.stand) p held)

  still_stands : All (IsOn n) points → ((p : Place) → IsOn n p → IsTrue (holds_place points p) → cell_at c (number_of n p) ≡ cell_at begin (number_of n p)) → list_all (holds_stone n k c) points ≡ true
  still_stands on same = all_pass (holds_stone n k c) n points on (λ q q_on held. eq_same_cell (cell_at c (number_of n q)) (Stone k) (same q q_on held ∙ stood_there q held))

  stands_no_more : (p : Place) → IsTrue (holds_place points p) → cell_at c (number_of n p) ≢ cell_at begin (number_of n p) → list_all (holds_stone n k c) points ≡ false
  stands_no_more p held differs = go (list_all (holds_stone n k c) points) refl
    where
      go : (b : Bool) → list_all (holds_stone n k c) points ≡ b → b ≡ false
      go true all = absurd (differs (same_cell_eq (cell_at c (number_of n p)) (Stone k) (passes_held (holds_stone n k c) points all p held) ∙ sym (stood_there p held)))
      go false all = refl

  -- the targets stand in the second exactly if the two do not differ at any of them
  pub by_difference : All (IsOn n) points → (m : ℕ) → m ≡ n → (b : Bool)
      → (IsFalse b → (p : Place) → IsOn m p → IsTrue (holds_place points p) → cell_at c (number_of m p) ≡ cell_at begin (number_of m p))
      → (IsTrue b → (p : Place) × IsTrue (holds_place points p) × (cell_at c (number_of m p) ≢ cell_at begin (number_of m p)))
      → not b ≡ list_all (λ p. same_cell (cell_at c p) (Stone k)) (map (number_of n) points)
  by_difference on m e true same differs =
      let there = subst (λ (i : ℕ). (p : Place) × IsTrue (holds_place points p) × (cell_at c (number_of i p) ≢ cell_at begin (number_of i p))) e (differs refl) in
      sym (stand_is n c k points ∙ stands_no_more there.0 there.1 there.2)
  by_difference on m e false same differs =
      sym (stand_is n c k points ∙ still_stands on (subst (λ (i : ℕ). (p : Place) → IsOn i p → IsTrue (holds_place points p) → cell_at c (number_of i p) ≡ cell_at begin (number_of i p)) e (same refl)))
