-- What the type of problems keeps is what a record's problem is asked.
use Rattle.tsumego_problem.proofs.Common.{◌≡◌, ◌≢◌, ℕ, zero, suc, ◌+◌, ◌*◌, ◌<◌, ◌≤◌, length, get_or, refl, sym, ◌∙◌, ap, subst, mul-le-mul, eqb-true, ltb-true, arith, rules, not, ◌==◌, nat_eq, nat_lt, filter, list_any, list_all, range_with_len, prefix_len, All, nat_tests, false_from_ne_true, or_parts, list_any-append, Colour, Cell, Stone, MAX_SIZE, same_cells_eq, same_cells_refl, points, cell_at, same_cell, same_cells, all_reach_empty, Place, IsOn, number_of, and_left, and_right, has_occurred, place_in, repeats, holds_point, GameProblem, each_new, IsProblem, are_targets, has_no_liberty}
use Rattle.std.proofs.Common.{eq-eqb}
use Rattle.std.specs.Prelude.{Bool, true, false, ◌&&◌, ◌||◌, IsTrue, List, [], ◌∷◌, ◌++◌, map, Some}
use Rattle.std.specs.List.{AllPairs}
use Rattle.go_points.specs.Points.{is_before, IsPointSet}
use Rattle.target_game.specs.Laws.{IsProblem as Keeps}
use Rattle.tsumego_problem.specs.Canonical.{present}
use Rattle.tsumego_problem.proofs.Making.{colour_standing}
use Rattle.tsumego_problem.proofs.Points.{same_filter}
use Rattle.go_points.proofs.Sides.{number_below}

-- a test that each element passes
all_pass : {X : Type 0} (P : X → Type 0) (test : X → Bool) (xs : List X) → ((x : X) → P x → test x ≡ true) → All P xs → list_all test xs ≡ true
all_pass P test [] h all = refl
all_pass P test (x ∷ xs) h all = rw (h x (all 0 x (omega arith))) (all_pass P test xs h (λ k d low. all (suc k) d (omega arith)))

-- ---- each colouring once

abbrev AreNew : List (List Cell) → List (List Cell) → Type 0
AreNew before cs = (k : ℕ) (d : List Cell) → k < length cs → has_occurred before (get_or cs k d) ≡ false

other_way : (c d : List Cell) → same_cells c d ≡ false → same_cells d c ≡ false
other_way c d h = false_from_ne_true (same_cells d c) (λ e. let both : true ≡ false = sym (ap (same_cells c) (same_cells_eq d c e) ∙ same_cells_refl c) ∙ h in cc)

never_at : (c : List Cell) (cs : List (List Cell)) (k : ℕ) (d : List Cell) → has_occurred cs c ≡ false → k < length cs → same_cells c (get_or cs k d) ≡ false
never_at c [] k d h low = absurd (omega arith)
never_at c (x ∷ xs) zero d h low = (or_parts (same_cells c x) (has_occurred xs c) h).0
never_at c (x ∷ xs) (suc k) d h low = never_at c xs k d (or_parts (same_cells c x) (has_occurred xs c) h).1 (omega arith)

each_is_new : (before cs : List (List Cell)) → AreNew before cs → repeats cs ≡ false → each_new before cs ≡ true
each_is_new before [] new once = refl
each_is_new before (c ∷ cs) new once =
    let parts = or_parts (has_occurred cs c) (repeats cs) once in
    rw (new 0 c (omega arith)) (each_is_new (before ++ c ∷ []) cs (λ k d low. later k d low parts.0) parts.1)
  where
    later : (k : ℕ) (d : List Cell) → k < length cs → has_occurred cs c ≡ false → has_occurred (before ++ c ∷ []) (get_or cs k d) ≡ false
    later k d low absent =
        let old : has_occurred before (get_or cs k d) ≡ false = new (suc k) d (omega arith) in
        list_any-append (same_cells (get_or cs k d)) before (c ∷ []) ∙ rw (old, other_way c (get_or cs k d) (never_at c cs k d absent low)) refl

-- the place of a colouring is that where it stands
prefix_is : (h : List (List Cell)) (i : ℕ) → i < length h → repeats h ≡ false → prefix_len (λ x. not (same_cells (get_or h i []) x)) h ≡ i
prefix_is [] i low once = absurd (omega arith)
prefix_is (c ∷ cs) zero low once = rw (same_cells_refl c) refl
prefix_is (c ∷ cs) (suc i) low once =
    let parts = or_parts (has_occurred cs c) (repeats cs) once in
    let other : same_cells (get_or cs i []) c ≡ false = other_way c (get_or cs i []) (never_at c cs i [] parts.0 (omega arith)) in
    let rest = prefix_is cs i (omega arith) parts.1 in
    rw other (omega (arith, rest))

place_is : (h : List (List Cell)) (i : ℕ) → i < length h → repeats h ≡ false → place_in h (get_or h i []) ≡ Some i
place_is h i low once =
    let within : nat_lt i (length h) ≡ true = grind (arith, nat_tests) in
    rw (prefix_is h i low once, within) refl

-- ---- targets and regions ascend

-- from a on, and below the end
abbrev Rises : ℕ → ℕ → List ℕ → Type 0
Rises a end [] = Unit {0}
Rises a end (x ∷ xs) = (a ≤ x) × (x < end) × Rises (x + 1) end xs

absent_below : (a b end : ℕ) (xs : List ℕ) → a < b → Rises b end xs → list_any (nat_eq a) xs ≡ false
absent_below a b end [] low rises = refl
absent_below a b end (x ∷ xs) low (from, within, rest) = let i0 = absent_below a (x + 1) end xs (omega arith) rest in search rules

picks_itself : (a k end : ℕ) (xs : List ℕ) → end ≡ a + k → Rises a end xs → filter (holds_point xs) (range_with_len a k) ≡ xs
picks_itself a zero end [] is rises = refl
picks_itself a zero end (x ∷ xs) is (from, within, rest) = absurd (omega (arith, is, from, within))
picks_itself a (suc k) end [] is rises = picks_itself (a + 1) k end [] (omega (arith, is)) tt
picks_itself a (suc k) end (x ∷ xs) is (from, within, rest) = go (nat_eq a x) refl (λ ys rises. picks_itself (a + 1) k end ys (omega (arith, is)) rises)
  where
    go : (b : Bool) → nat_eq a x ≡ b → ((ys : List ℕ) → Rises (a + 1) end ys → filter (holds_point ys) (range_with_len (a + 1) k) ≡ ys) → filter (holds_point (x ∷ xs)) (a ∷ range_with_len (a + 1) k) ≡ x ∷ xs
    go true e rest_picked =
        let here : a ≡ x = eqb-true a x e in
        let same = same_filter (holds_point (x ∷ xs)) (holds_point xs) (a + 1) k (λ p low high. later p low here) in
        rw e (ap (λ ys. a ∷ ys) (same ∙ rest_picked xs (subst (λ y. Rises (y + 1) end xs) (sym here) rest)) ∙ ap (λ y. y ∷ xs) here)
      where
        later : (p : ℕ) → a + 1 ≤ p → a ≡ x → (nat_eq p x || holds_point xs p) ≡ holds_point xs p
        later p low here = let other : nat_eq p x ≡ false = grind (arith, nat_tests) in rw other refl
    go false e rest_picked =
        let more : a + 1 ≤ x = (let other : a ≢ x = (λ z. let both : true ≡ false = sym (eq-eqb a x z) ∙ e in cc) in omega (arith, from)) in
        let gone = absent_below a (x + 1) end xs (omega (arith, more)) rest in
        rw (e, gone) (rest_picked (x ∷ xs) (more, within, rest))

numbers_rise : (n : ℕ) (p q : Place) → IsOn n p → IsOn n q → is_before p q ≡ true → number_of n p + 1 ≤ number_of n q
numbers_rise n p q on_p on_q h = go (nat_lt p.row q.row) refl h
  where
    go : (b : Bool) → nat_lt p.row q.row ≡ b → (b || (nat_eq p.row q.row && nat_lt p.column q.column)) ≡ true → number_of n p + 1 ≤ number_of n q
    go true e f =
        let above : p.row + 1 ≤ q.row = (let l = ltb-true p.row q.row e in omega (arith, l)) in
        let stretch : (p.row + 1) * n ≤ q.row * n = mul-le-mul above (omega arith) in
        omega (arith, stretch, on_p.column_within)
    go false e f =
        let same : p.row * n ≡ q.row * n = ap (λ r. r * n) (eqb-true p.row q.row (and_left (nat_eq p.row q.row) (nat_lt p.column q.column) f)) in
        let left = ltb-true p.column q.column (and_right (nat_eq p.row q.row) (nat_lt p.column q.column) f) in
        omega (arith, same, left)

set_rises : (n a : ℕ) (ps : List Place) → AllPairs (λ p q. IsTrue (is_before p q)) ps → All (IsOn n) ps → ((k : ℕ) (d : Place) → k < length ps → a ≤ number_of n (get_or ps k d)) → Rises a (n * n) (map (number_of n) ps)
set_rises n a [] pairs on from = tt
set_rises n a (p ∷ ps) pairs on from =
    let here = on 0 p (omega arith) in (
      from 0 p (omega arith),
      number_below n p here,
      set_rises n (number_of n p + 1) ps (λ i j d less low. pairs (suc i) (suc j) d (omega arith) (omega arith)) (λ k d low. on (suc k) d (omega arith))
          (λ k d low. numbers_rise n p (get_or ps k d) here (on (suc k) d (omega arith)) (pairs 0 (suc k) d (omega arith) (omega arith))),
    )

pub set_picked : (n : ℕ) (ps : List Place) (numbers : List ℕ) → map (number_of n) ps ≡ numbers → IsPointSet ps → All (IsOn n) ps → numbers ≡ filter (holds_point numbers) (points n)
set_picked n ps numbers is set on = subst (λ ns. ns ≡ filter (holds_point ns) (points n)) is (sym (picks_itself 0 (n * n) (n * n) (map (number_of n) ps) (omega arith) (set_rises n 0 ps set.ascending on (λ k d low. omega arith))))

-- ---- the targets

stones_stand : (c : List Cell) (k : Colour) (ps : List ℕ) → 0 < length ps → list_all (λ p. same_cell (cell_at c p) (Stone k)) ps ≡ true → are_targets c ps ≡ true
stones_stand c k ps h g = search rules

some_points : (ps : List ℕ) → 0 < length ps → ps ≢ []
some_points ps h g = search rules

-- ---- the whole problem

pub problem_kept : (q : GameProblem) → 1 ≤ q.game.size → q.game.size ≤ MAX_SIZE → Keeps q → q.game.targets ≡ filter (holds_point q.game.targets) (points q.game.size) → q.game.region ≡ filter (holds_point q.game.region) (points q.game.size) → IsProblem q
problem_kept q small large keeps targets region =
    let n = q.game.size in record {
      small = small;
      large = large;
      sizes = all_pass (λ (c : List Cell). length c ≡ n * n) (λ (c : List Cell). length c == n * n) q.history (λ c e. equal (length c) (n * n) e) keeps.sizes;
      once = each_is_new [] q.history (λ k d low. refl) keeps.once;
      liberties = all_pass (λ c. IsTrue (all_reach_empty n c)) (λ c. not (has_no_liberty n c)) q.history (λ c e. ap (λ b. not (not b)) e) keeps.liberties;
      place = place_is q.history q.place keeps.present keeps.once;
      passes = (let few = keeps.passes in omega (arith, few));
      targets = targets;
      stones = stones_stand (present q) q.game.defender q.game.targets keeps.some_target keeps.stones;
      defender = sym (colour_standing (present q) q.game.defender q.game.targets keeps.some_target keeps.stones);
      region = region;
      somewhere = some_points q.game.region keeps.some_point;
    }
  where
    equal : (a b : ℕ) → a ≡ b → (a == b) ≡ true
    equal a b e = eq-eqb a b e
