-- A walk that has come to a marked node has asked all that a problem is asked.
use Rattle.tsumego_problem.proofs.Common.{◌≡◌, ℕ, suc, ◌+◌, ◌-◌, ◌*◌, ◌<◌, ◌≤◌, Bool, true, false, cond, ◌&&◌, ◌||◌, nat_le, eqb-true, ltb-true, List, [], ◌∷◌, map, length, get_or, slice_get, Option, Some, None, option_map, is_none, Result, Ok, Err, refl, sym, ◌∙◌, ap, ap₂, subst, mul-le-mul, arith, rules, unwrap_or, codes, All, list_all, list_any-append, nat_tests, mul-add-lt, Colour, Cell, Empty, Stone, points, cell_at, same_cell, side_of, row_of, column_of, all_reach_empty, Place, IsOn, on_board, number_of, same_cell_refl, length-map, not-false, and_left, and_right, place_in, repeats, holds_point, GameProblem, GameRecord, colouring_of, first_refusal, refusals, problem_of as problem_of_parts, values_at, Node, point_at, inside, rectangle, points_named, points_of_each, points_of, is_empty, is_marked, when, first_fault, node_fault, targets_at, region_at, are_targets, history_limit, walk_of, HasReached, ProblemFault}
use Rattle.std.proofs.Common.{not, nat_eq, nat_lt, lt-ltb, eq-eqb, filter}
use Rattle.std.proofs.lemmas.List.FromFn.{length-range_with_len}
use Rattle.go_points.specs.Private.Sides.{side_of-whole}
use Rattle.go_points.proofs.Cells.{same_cell_eq}
use Rattle.go_turns.proofs.Turns.{on_from}
use Rattle.target_game.specs.Kept.{kept_problem}
use Rattle.target_game.specs.declared.TheConstants.{MAX_HISTORY}
use Rattle.target_game.specs.declared.bad_problem.BadProblem.{BadProblem}
use Rattle.target_game.specs.declared.bad_problem.BadProblem.TheVariants as bad
use Rattle.target_game.specs.Problem.{one_colour, problem_on}
use Rattle.target_game.proofs.Facts.{made_of}
use Rattle.target_game.proofs.Loops.{on_first}
use Rattle.sgf_text.specs.Bytes.{is_lower}
use Rattle.tsumego_problem.proofs.Making.{stands_at}
use Rattle.tsumego_problem.proofs.Points.{held}

-- ---- a property that has good values has a point

-- a point by its letters is on the board
pub point_low : (n c r p : ℕ) → point_at n c r ≡ Some p → p < n * n
point_low n c r p h = go (is_lower c && is_lower r && nat_lt (c - 97) n && nat_lt (r - 97) n) refl h
  where
    go : (b : Bool) → (is_lower c && is_lower r && nat_lt (c - 97) n && nat_lt (r - 97) n) ≡ b → cond b (Some ((r - 97) * n + (c - 97))) None ≡ Some p → p < n * n
    go false e f = absurd (cc f)
    go true e f =
        let same : (r - 97) * n + (c - 97) ≡ p = cc f in
        let row : r - 97 < n = ltb-true (r - 97) n (and_right (is_lower c && is_lower r && nat_lt (c - 97) n) (nat_lt (r - 97) n) e) in
        let column : c - 97 < n = ltb-true (c - 97) n (and_right (is_lower c && is_lower r) (nat_lt (c - 97) n) (and_left (is_lower c && is_lower r && nat_lt (c - 97) n) (nat_lt (r - 97) n) e)) in
        subst (λ x. x < n * n) same (mul-add-lt (r - 97) n (c - 97) n row column)

no_more : (a : ℕ) → nat_le a a ≡ true
no_more a = grind (arith, nat_tests)

-- some point of the list is on the board
abbrev HasPoint : ℕ → List ℕ → Type 0
HasPoint n ps = (p : ℕ) × (p < n * n) × (holds_point ps p ≡ true)

in_rectangle : (n p q : ℕ) (ps : List ℕ) → p < n * n → rectangle n p q ≡ Some ps → HasPoint n ps
in_rectangle n p q ps low h = go (nat_le (column_of n p) (column_of n q)) refl (nat_le (row_of n p) (row_of n q)) refl h
  where
    go : (a : Bool) → nat_le (column_of n p) (column_of n q) ≡ a → (b : Bool) → nat_le (row_of n p) (row_of n q) ≡ b → cond (a && b) (Some (filter (inside n p q) (points n))) None ≡ Some ps → HasPoint n ps
    go false e b f g = absurd (cc g)
    go true e false f g = absurd (cc g)
    go true e true f g =
        let same : filter (inside n p q) (points n) ≡ ps = cc g in
        (p, low, ap (λ xs. holds_point xs p) (sym same) ∙ held n (inside n p q) p low ∙ rw (no_more (column_of n p), e, no_more (row_of n p), f) refl)

named_point : (n : ℕ) (text : List ℕ) (ps : List ℕ) → points_named n text ≡ Some ps → HasPoint n ps
named_point n (c ∷ r ∷ []) ps h = go (point_at n c r) refl h
  where
    go : (o : Option ℕ) → point_at n c r ≡ o → option_map (λ (p : ℕ). p ∷ []) o ≡ Some ps → HasPoint n ps
    go None e f = absurd (cc f)
    go (Some p) e f = let same : p ∷ [] ≡ ps = cc f in subst (HasPoint n) same (p, point_low n c r p e, ap (λ b. b || false) (eq-eqb p p refl))
named_point n (c ∷ r ∷ colon ∷ d ∷ s ∷ []) ps h = grind (arith, nat_tests, in_rectangle, point_low)
named_point n [] ps h = absurd (cc h)
named_point n (c ∷ []) ps h = absurd (cc h)
named_point n (c ∷ r ∷ a ∷ []) ps h = absurd (cc h)
named_point n (c ∷ r ∷ a ∷ d ∷ []) ps h = absurd (cc h)
named_point n (c ∷ r ∷ a ∷ d ∷ s ∷ t ∷ rest) ps h = absurd (cc h)

each_point : (n : ℕ) (value : List ℕ) (values : List (List ℕ)) (ps : List ℕ) → points_of_each n (value ∷ values) ≡ Some ps → HasPoint n ps
each_point n value values ps h = grind (arith, nat_tests, named_point, list_any-append)

some_element : (ps : List ℕ) (p : ℕ) → holds_point ps p ≡ true → 0 < length ps
some_element [] p h = absurd (cc h)
some_element (x ∷ xs) p h = omega arith

pub some_region : (n : ℕ) (node : Node) → 1 ≤ n → is_none (points_of n (values_at (codes "SQ") node)) ≡ false → 0 < length (region_at n node)
some_region n node least fine = go (values_at (codes "SQ") node) refl fine
  where
    whole : 0 < length (points n)
    whole = let len : length (points n) ≡ n * n = length-range_with_len 0 (n * n) in omega (arith, len, mul-le-mul least least)

    go : (values : List (List ℕ)) → values_at (codes "SQ") node ≡ values → is_none (points_of n (values_at (codes "SQ") node)) ≡ false → 0 < length (region_at n node)
    go [] e f = ap_len (sym (ap (λ vs. cond (not (is_empty vs)) (unwrap_or (points_of n vs) []) (points n)) e)) whole
      where
        ap_len : {xs ys : List ℕ} → xs ≡ ys → 0 < length xs → 0 < length ys
        ap_len same low = subst (λ zs. 0 < length zs) same low
    go (v ∷ vs) e f =
        subst (λ zs. 0 < length zs) (sym (ap (λ xs. cond (not (is_empty xs)) (unwrap_or (points_of n xs) []) (points n)) e))
        (by (points_of_each n (v ∷ vs)) refl (ap (λ xs. is_none (points_of n xs)) (sym e) ∙ f))
      where
        by : (o : Option (List ℕ)) → points_of_each n (v ∷ vs) ≡ o → is_none (option_map (λ ps. filter (holds_point ps) (points n)) (points_of_each n (v ∷ vs))) ≡ false
            → 0 < length (unwrap_or (option_map (λ ps. filter (holds_point ps) (points n)) (points_of_each n (v ∷ vs))) [])
        by None d g = absurd (cc (ap (λ o. is_none (option_map (λ ps. filter (holds_point ps) (points n)) o)) (sym d) ∙ g))
        by (Some ps) d g =
            let (p, low, there) = each_point n v vs ps d in
            subst (λ o. 0 < length (unwrap_or (option_map (λ ps. filter (holds_point ps) (points n)) o) [])) (sym d)
            (some_element (filter (holds_point ps) (points n)) p (held n (holds_point ps) p low ∙ there))

-- ---- the refusals of a problem

-- stones of one colour have it
targets_colour : (n : ℕ) (c : List Cell) (ts : List Place) → are_targets c (map (number_of n) ts) ≡ true → (x : Colour) × (one_colour (map (λ p. cell_at c (number_of n p)) ts) ≡ Some x)
targets_colour n c [] h = absurd (cc h)
targets_colour n c (t ∷ ts) h = go (cell_at c (number_of n t)) refl h
  where
    go : (a : Cell) → cell_at c (number_of n t) ≡ a → (not (same_cell (cell_at c (number_of n t)) Empty) && list_all (λ q. same_cell (cell_at c q) (cell_at c (number_of n t))) (map (number_of n) ts)) ≡ true
        → (x : Colour) × (one_colour (cell_at c (number_of n t) ∷ map (λ p. cell_at c (number_of n p)) ts) ≡ Some x)
    go Empty e f = absurd (cc (ap (λ a. not (same_cell a Empty) && list_all (λ q. same_cell (cell_at c q) a) (map (number_of n) ts)) (sym e) ∙ f))
    go (Stone x) e f =
        let others : list_all (λ q. same_cell (cell_at c q) (Stone x)) (map (number_of n) ts) ≡ true =
        ap (λ a. list_all (λ q. same_cell (cell_at c q) a) (map (number_of n) ts)) (sym e)
        ∙ and_right (not (same_cell (cell_at c (number_of n t)) Empty)) (list_all (λ q. same_cell (cell_at c q) (cell_at c (number_of n t))) (map (number_of n) ts)) f in
        (x, ap (λ a. one_colour (a ∷ map (λ p. cell_at c (number_of n p)) ts)) e ∙ ap (λ b. cond b (Some x) None) (turned ts others))
      where
        turned : (ps : List Place) → list_all (λ q. same_cell (cell_at c q) (Stone x)) (map (number_of n) ps) ≡ true → list_all (same_cell (Stone x)) (map (λ p. cell_at c (number_of n p)) ps) ≡ true
        turned [] g = refl
        turned (p ∷ ps) g =
            let here : cell_at c (number_of n p) ≡ Stone x = same_cell_eq (cell_at c (number_of n p)) (Stone x) (and_left (same_cell (cell_at c (number_of n p)) (Stone x)) (list_all (λ q. same_cell (cell_at c q) (Stone x)) (map (number_of n) ps)) g) in
            ap (λ a. same_cell (Stone x) a && list_all (same_cell (Stone x)) (map (λ p. cell_at c (number_of n p)) ps)) here
            ∙ ap (λ b. b && list_all (same_cell (Stone x)) (map (λ p. cell_at c (number_of n p)) ps)) (same_cell_refl (Stone x))
            ∙ turned ps (and_right (same_cell (cell_at c (number_of n p)) (Stone x)) (list_all (λ q. same_cell (cell_at c q) (Stone x)) (map (number_of n) ps)) g)

pub all_on_board : (n : ℕ) (ps : List Place) → All (IsOn n) ps → list_all (on_board n) ps ≡ true
all_on_board n [] on = refl
all_on_board n (p ∷ ps) on = ap₂ (λ a b. a && b) (on_from n p (on 0 p (omega arith))) (all_on_board n ps (λ k d low. on (suc k) d (omega arith)))

-- eight tests that fail
eight : (a b d e f g t u : Bool) (x1 x2 x3 x4 x5 x6 x7 x8 : BadProblem) → a ≡ false → b ≡ false → d ≡ false → e ≡ false → f ≡ false → g ≡ false → t ≡ false → u ≡ false
    → first_refusal ((a, x1) ∷ (b, x2) ∷ (d, x3) ∷ (e, x4) ∷ (f, x5) ∷ (g, x6) ∷ (t, x7) ∷ (u, x8) ∷ []) ≡ None
eight a b d e f g t u x1 x2 x3 x4 x5 x6 x7 x8 h1 h2 h3 h4 h5 h6 h7 h8 = rw (h1, h2, h3, h4, h5, h6, h7, h8) refl

-- four refusals that are not made
-- the fourth of eight
fourth : (a b d e f g t u : Bool) (x1 x2 x3 x4 x5 x6 x7 x8 : ProblemFault)
    → first_fault (when a x1 ∷ when b x2 ∷ when d x3 ∷ when e x4 ∷ when f x5 ∷ when g x6 ∷ when t x7 ∷ when u x8 ∷ []) ≡ None → e ≡ false
fourth a b d e f g t u x1 x2 x3 x4 x5 x6 x7 x8 h = search rules

region_is_good : (n k : ℕ) (node : Node) → node_fault n k node ≡ None → is_none (points_of n (values_at (codes "SQ") node)) ≡ false
region_is_good n k node h = grind (arith, nat_tests)

module _ (n : ℕ) (least : 1 ≤ n) (node : Node) (r : GameRecord) (mover : Colour) (place : ℕ) (targets region : List Place)
    (reached : HasReached (Some history_limit) n node (walk_of r mover))
    (within : r.present.place < length r.present.history) (side : side_of (colouring_of r.present) ≡ n)
    (stands : place ≡ unwrap_or (place_in r.present.history (colouring_of r.present)) 0)
    (marked : map (number_of n) targets ≡ targets_at n node) (on_targets : All (IsOn n) targets)
    (area : map (number_of n) region ≡ region_at n node) (on_region : All (IsOn n) region) where
  abbrev h : List (List Cell)
  h = r.present.history

  late : (is_marked node && not (are_targets (colouring_of r.present) (targets_at n node)) ≡ false) × (is_marked node && nat_le 2 r.present.passes ≡ false) × (nat_lt history_limit (length h) ≡ false)
  late = search rules

  there : get_or h place [] ≡ colouring_of r.present
  there = ap (λ i. get_or h i []) stands ∙ stands_at h (colouring_of r.present) r.present.place within refl

  placed : place < length h
  placed = grind (arith, nat_tests)

  pub problem_is_made : (q : GameProblem) × (problem_of_parts h place mover r.present.passes targets region ≡ Ok q)
  problem_is_made =
      let good : are_targets (colouring_of r.present) (targets_at n node) ≡ true = not-false (are_targets (colouring_of r.present) (targets_at n node)) (ap (λ b. b && not (are_targets (colouring_of r.present) (targets_at n node))) (sym reached.marked) ∙ late.0) in
      let colour = targets_colour n (get_or h place []) targets (ap₂ are_targets there marked ∙ good) in
      let few : nat_le 2 r.present.passes ≡ false = ap (λ b. b && nat_le 2 r.present.passes) (sym reached.marked) ∙ late.1 in
      let some : 0 < length region = omega (arith, sym (length-map region (number_of n)) ∙ ap length area, some_region n node least (region_is_good n reached.number node reached.fine)) in
      let none : first_refusal (refusals n h place r.present.passes targets region) ≡ None = eight
      (not (list_all (λ c. nat_eq (length c) (n * n)) h && list_all (on_board n) targets && list_all (on_board n) region)) (not (nat_lt place (length h)))
      (is_none (one_colour (map (λ p. cell_at (get_or h place []) (number_of n p)) targets))) (nat_le 2 r.present.passes) (nat_eq (length region) 0)
      (nat_lt MAX_HISTORY (length h)) (not (list_all (all_reach_empty n) h)) (repeats h)
      bad.OtherSize bad.BadPlace bad.BadTargets bad.Ended bad.EmptyRegion bad.LongHistory bad.NoLiberty bad.Repeated
      (ap not (ap₂ (λ a b. a && b) (ap₂ (λ a b. a && b) reached.history.full (all_on_board n targets on_targets)) (all_on_board n region on_region)))
      (ap not (lt-ltb place (length h) placed)) (ap is_none colour.1) few (not_zero (length region) some) late.2 (ap not reached.history.free) reached.history.once in
      first h refl none (colour.0, colour.1)
    where
      not_zero : (k : ℕ) → 0 < k → nat_eq k 0 ≡ false
      not_zero k low = grind (arith, nat_tests)

      first : (cs : List (List Cell)) → h ≡ cs → first_refusal (refusals n h place r.present.passes targets region) ≡ None → (x : Colour) × (one_colour (map (λ p. cell_at (get_or h place []) (number_of n p)) targets) ≡ Some x)
          → (q : GameProblem) × (problem_of_parts h place mover r.present.passes targets region ≡ Ok q)
      first [] e none colour = absurd (omega (arith, within, ap length e))
      first (c ∷ cs) e none (x, colour) =
          let whole : nat_eq (length c) (n * n) ≡ true = and_left (nat_eq (length c) (n * n)) (list_all (λ d. nat_eq (length d) (n * n)) cs) (ap (list_all (λ d. nat_eq (length d) (n * n))) (sym e) ∙ reached.history.full) in (
            kept_problem n h place mover r.present.passes targets x region,
            on_first h c place mover r.present.passes targets region (ap (λ xs. slice_get xs 0) e)
                ∙ ap (λ m. problem_on m h place mover r.present.passes targets region) (side_of-whole c n (eqb-true (length c) (n * n) whole))
                ∙ made_of n h place mover r.present.passes targets region x none colour,
          )

pub not_refused : (q : GameProblem) (e : BadProblem) → ◌≡◌ {A = Result GameProblem BadProblem} (Ok q) (Err e) → ⊥
not_refused q e h = absurd (cc h)

-- a turn by its value stands on the board
