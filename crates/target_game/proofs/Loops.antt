-- Tests of the elements of a list, one by one: what is still to be tested decides.
use Rattle.target_game.proofs.Common.{◌≡◌, ℕ, zero, suc, ◌+◌, ◌*◌, ◌<◌, Bool, true, false, not, ◌&&◌, ◌||◌, nat_eq, nat_lt, ltb-true, slice_get, Err, eq-eqb, eqb-true, List, [], ◌∷◌, drop, length, get_or, cond, map, Some, None, refl, sym, ◌∙◌, ap, ap₂, subst, arith, All, list_all, list_any, drop-cons, drop-length, Cell, Colour, Black, White, Empty, Stone, same_cell, side_of, Place, IsOn, on_board, same_cell_refl, and_left, and_right, BadPlace, one_colour, problem_on, problem_of, side_of-whole}
use Rattle.go_points.specs.Points.{first_place}

module _ {A : Type 0} (f : A → Bool) (xs : List A) where
  -- all pass exactly where all from i on do
  abbrev pub AllAfter : ℕ → Type 0
  AllAfter i = list_all f (drop i xs) ≡ list_all f xs

  pub all_more : (i : ℕ) (x : A) → i < length xs → get_or xs i x ≡ x → f x ≡ true → AllAfter i → AllAfter (i + 1)
  all_more i x low at passed had =
      let step : drop i xs ≡ x ∷ drop (suc i) xs = drop-cons xs i x low ∙ ap (λ y. y ∷ drop (suc i) xs) at in
      let next : suc i ≡ i + 1 = omega arith in
      sym (ap (λ k. list_all f (drop k xs)) next) ∙ sym (ap (λ b. b && list_all f (drop (suc i) xs)) passed) ∙ sym (ap (list_all f) step) ∙ had

  pub all_no : (i : ℕ) (x : A) → i < length xs → get_or xs i x ≡ x → f x ≡ false → AllAfter i → list_all f xs ≡ false
  all_no i x low at failed had =
      let step : drop i xs ≡ x ∷ drop (suc i) xs = drop-cons xs i x low ∙ ap (λ y. y ∷ drop (suc i) xs) at in
      sym had ∙ ap (list_all f) step ∙ ap (λ b. b && list_all f (drop (suc i) xs)) failed

  pub all_yes : (i : ℕ) → i ≡ length xs → AllAfter i → list_all f xs ≡ true
  all_yes i end had = sym had ∙ ap (λ k. list_all f (drop k xs)) end ∙ ap (list_all f) (drop-length xs)

  -- some passes exactly where some from i on does
  abbrev pub AnyAfter : ℕ → Type 0
  AnyAfter i = list_any f (drop i xs) ≡ list_any f xs

  pub any_more : (i : ℕ) (x : A) → i < length xs → get_or xs i x ≡ x → f x ≡ false → AnyAfter i → AnyAfter (i + 1)
  any_more i x low at failed had =
      let step : drop i xs ≡ x ∷ drop (suc i) xs = drop-cons xs i x low ∙ ap (λ y. y ∷ drop (suc i) xs) at in
      let next : suc i ≡ i + 1 = omega arith in
      sym (ap (λ k. list_any f (drop k xs)) next) ∙ sym (ap (λ b. b || list_any f (drop (suc i) xs)) failed) ∙ sym (ap (list_any f) step) ∙ had

  pub any_yes : (i : ℕ) (x : A) → i < length xs → get_or xs i x ≡ x → f x ≡ true → AnyAfter i → list_any f xs ≡ true
  any_yes i x low at passed had =
      let step : drop i xs ≡ x ∷ drop (suc i) xs = drop-cons xs i x low ∙ ap (λ y. y ∷ drop (suc i) xs) at in
      sym had ∙ ap (list_any f) step ∙ ap (λ b. b || list_any f (drop (suc i) xs)) passed

  pub any_no : (i : ℕ) → i ≡ length xs → AnyAfter i → list_any f xs ≡ false
  any_no i end had = sym had ∙ ap (λ k. list_any f (drop k xs)) end ∙ ap (list_any f) (drop-length xs)

pub not_of_size : (n : ℕ) (c : List Cell) → (side_of c ≡ n → ⊥) → nat_eq (length c) (n * n) ≡ false
not_of_size n c other = go (nat_eq (length c) (n * n)) refl
  where
    go : (b : Bool) → nat_eq (length c) (n * n) ≡ b → b ≡ false
    go true e = absurd (other (side_of-whole c n (eqb-true (length c) (n * n) e)))
    go false e = refl

-- the same from a test of the sizes
pub differs_in_size : (n r : ℕ) (c : List Cell) (b : Bool) → r ≡ side_of c → b ≡ not (nat_eq r n) → b ≡ true → nat_eq (length c) (n * n) ≡ false
differs_in_size n r c b value test passed = not_of_size n c (λ e. go (eq-eqb r n (value ∙ e)))
  where
    go : nat_eq r n ≡ true → ⊥
    go same = absurd (cc (sym passed ∙ test ∙ ap not same))

-- a list from which the first has been taken
pub left_on : {A : Type 0} (P : A → Type 0) (xs ys : List A) (x : A) → xs ≡ x ∷ ys → All P xs → All P ys
left_on P xs ys x e on k d low = let all : All P (x ∷ ys) = subst (λ zs. All P zs) e on in all (suc k) d (omega arith)

same_cell_symm : (a b : Cell) → same_cell a b ≡ same_cell b a
same_cell_symm Empty Empty = refl
same_cell_symm Empty (Stone y) = refl
same_cell_symm (Stone x) Empty = refl
same_cell_symm (Stone Black) (Stone Black) = refl
same_cell_symm (Stone Black) (Stone White) = refl
same_cell_symm (Stone White) (Stone Black) = refl
same_cell_symm (Stone White) (Stone White) = refl

-- the colour of the stones at some points, by the first of them
pub colour_is : (f : Place → Cell) (ps : List Place) (p : Place) (x : Colour) (b : Bool) → first_place ps ≡ Some p → f p ≡ Stone x → b ≡ list_all (λ q. same_cell (f q) (Stone x)) ps → one_colour (map f ps) ≡ cond b (Some x) None
colour_is f [] p x b first at all = absurd (cc)
colour_is f (q ∷ qs) p x b first at all =
    let same : q ≡ p = cc first in
    let here : f q ≡ Stone x = ap f same ∙ at in
    ap (λ a. one_colour (a ∷ map f qs)) here ∙ ap (λ t. cond t (Some x) None) (others qs ∙ sym (all ∙ ap (λ a. same_cell a (Stone x) && list_all (λ r. same_cell (f r) (Stone x)) qs) here ∙ ap (λ t. t && list_all (λ r. same_cell (f r) (Stone x)) qs) (same_cell_refl (Stone x))))
  where
    others : (rs : List Place) → list_all (same_cell (Stone x)) (map f rs) ≡ list_all (λ r. same_cell (f r) (Stone x)) rs
    others [] = refl
    others (r ∷ rs) = ap₂ (λ a t. a && t) (same_cell_symm (Stone x) (f r)) (others rs)

-- what all elements pass, when their test says so
pub all_sides : (n : ℕ) (h : List (List Cell)) → list_all (λ (c : List Cell). nat_eq (length c) (n * n)) h ≡ true → All (λ c. side_of c ≡ n) h
all_sides n [] all k d low = absurd (omega arith)
all_sides n (c ∷ cs) all zero d low = side_of-whole c n (eqb-true (length c) (n * n) (and_left (nat_eq (length c) (n * n)) (list_all (λ (e : List Cell). nat_eq (length e) (n * n)) cs) all))
all_sides n (c ∷ cs) all (suc k) d low = all_sides n cs (and_right (nat_eq (length c) (n * n)) (list_all (λ (e : List Cell). nat_eq (length e) (n * n)) cs) all) k d (omega arith)

pub all_on : (n : ℕ) (ps : List Place) → list_all (on_board n) ps ≡ true → All (IsOn n) ps
all_on n [] all k d low = absurd (omega arith)
all_on n (p ∷ ps) all zero d low =
    let here : on_board n p ≡ true = and_left (on_board n p) (list_all (on_board n) ps) all in
    record { row_within = ltb-true p.row n (and_left (nat_lt p.row n) (nat_lt p.column n) here); column_within = ltb-true p.column n (and_right (nat_lt p.row n) (nat_lt p.column n) here) }
all_on n (p ∷ ps) all (suc k) d low = all_on n ps (and_right (on_board n p) (list_all (on_board n) ps) all) k d (omega arith)

-- a problem by its first colouring
pub on_first : (h : List (List Cell)) (c : List Cell) (place : ℕ) (mover : Colour) (passes : ℕ) (targets region : List Place) → slice_get h 0 ≡ Some c → problem_of h place mover passes targets region ≡ problem_on (side_of c) h place mover passes targets region
unfolding problem_of
on_first [] c place mover passes targets region e = absurd (cc)
on_first (d ∷ ds) c place mover passes targets region e = let same : d ≡ c = cc e in ap (λ x. problem_on (side_of x) (d ∷ ds) place mover passes targets region) same

pub no_first : (h : List (List Cell)) (place : ℕ) (mover : Colour) (passes : ℕ) (targets region : List Place) → slice_get h 0 ≡ None → problem_of h place mover passes targets region ≡ Err BadPlace
unfolding problem_of
no_first [] place mover passes targets region e = refl
no_first (d ∷ ds) place mover passes targets region e = absurd (cc)
