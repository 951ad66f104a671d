-- The points of values, one value after another.
use Rattle.tsumego_problem.proofs.Common.{All, list_all, range_with_len, with_place, ◌≡◌, ℕ, zero, suc, ◌*◌, ltb-true, ◌+◌, ◌≤◌, ◌<◌, true, false, List, [], ◌∷◌, ◌++◌, drop, length, get_or, map, Option, Some, None, option_map, option_and_then, refl, sym, ◌∙◌, ap, ap₂, subst, arith, map-id, drop-cons, and_parts, nat_tests, points, Place, IsOn, place_of, number_of, holds_point, trim, points_named, points_of_each, points_of, points_in, Adds}
use Rattle.std.proofs.lemmas.List.FromFn.{map-range_with_len_more}
use Rattle.go_points.specs.Points.{places_that}
use Rattle.tsumego_problem.proofs.Rectangles.{put}
use Rattle.tsumego_problem.proofs.Points.{picked_below, picked_again, row_small, column_small}
use Rattle.std.proofs.Common.{nat_lt, filter, append-nil, append_assoc}
use Rattle.std.proofs.Math.Seq.{drop-length}
use Rattle.std.proofs.lemmas.Nat.{div-add-mod'}
use Rattle.go_points.proofs.PlaceSets.{places_none}

-- the set holds the points of the values before i
abbrev pub EachFrom : ℕ → List (List ℕ) → ℕ → List Place → Type 0
EachFrom n values i set = (ps : List ℕ) × (set ≡ points_in n ps) × (points_of_each n values ≡ option_map (λ qs. ps ++ qs) (points_of_each n (drop i values)))

numbers_back : (n : ℕ) (xs : List ℕ) → map (number_of n) (map (place_of n) xs) ≡ xs
numbers_back n [] = refl
numbers_back n (x ∷ xs) = ap₂ (λ y ys. y ∷ ys) (div-add-mod' x n) (numbers_back n xs)

numbers_in : (n : ℕ) (ps : List ℕ) → map (number_of n) (points_in n ps) ≡ filter (holds_point ps) (points n)
unfolding places_that
numbers_in n ps = numbers_back n (filter (holds_point ps) (points n))

module _ (n : ℕ) (values : List (List ℕ)) where
  pub each_start : (set : List Place) → set ≡ [] → EachFrom n values 0 set
  each_start set h = grind (arith, nat_tests, places_none)

  pub each_more : (i : ℕ) (v : List ℕ) (old new : List Place) → i < length values → get_or values i v ≡ v → Adds n (points_named n (trim v)) true old new → EachFrom n values i old → EachFrom n values (i + 1) new
  each_more i v old new low at adds (ps, is, left) =
      let next : suc i ≡ i + 1 = omega arith in
      let step : drop i values ≡ v ∷ drop (i + 1) values = drop-cons values i v low ∙ ap (λ y. y ∷ drop (suc i) values) at ∙ ap (λ k. v ∷ drop k values) next in
      go (points_named n (trim v)) adds (left ∙ ap (λ vs. option_map (λ qs. ps ++ qs) (points_of_each n vs)) step)
    where
      both : (qs : List ℕ) (o : Option (List ℕ)) → option_map (λ (rs : List ℕ). ps ++ rs) (option_map (λ (rs : List ℕ). qs ++ rs) o) ≡ option_map (λ (rs : List ℕ). (ps ++ qs) ++ rs) o
      both qs None = refl
      both qs (Some rs) = ap Some (sym (append_assoc ps qs rs))

      go : (o : Option (List ℕ)) → Adds n o true old new → points_of_each n values ≡ option_map (λ qs. ps ++ qs) (option_and_then (λ qs. option_map (λ rs. qs ++ rs) (points_of_each n (drop (i + 1) values))) o) → EachFrom n values (i + 1) new
      go None other e = absurd (cc)
      go (Some qs) (passed, gains) e = (ps ++ qs, gains ps is, e ∙ both qs (points_of_each n (drop (i + 1) values)))

  pub each_stop : (i : ℕ) (v : List ℕ) (old new : List Place) → i < length values → get_or values i v ≡ v → Adds n (points_named n (trim v)) false old new → EachFrom n values i old → points_of n values ≡ None
  each_stop i v old new h g e f = grind (arith, nat_tests, drop-cons)

  pub each_end : (i : ℕ) (set : List Place) → i ≡ length values → EachFrom n values i set → Some (map (number_of n) set) ≡ points_of n values
  each_end i set end (ps, is, left) =
      let whole : points_of_each n values ≡ Some ps = left ∙ ap (λ k. option_map (λ qs. ps ++ qs) (points_of_each n (drop k values))) end ∙ ap (λ vs. option_map (λ qs. ps ++ qs) (points_of_each n vs)) (drop-length values) ∙ ap Some (append-nil ps) in
      ap Some (ap (map (number_of n)) is ∙ numbers_in n ps) ∙ sym (ap (option_map (λ (qs : List ℕ). filter (holds_point qs) (points n))) whole)

-- such sets hold points of the board alone
pub in_board : (n : ℕ) (ps : List ℕ) → 1 ≤ n → All (IsOn n) (points_in n ps)
unfolding places_that
in_board n ps least = on_each (filter (holds_point ps) (points n)) (picked_below n (holds_point ps))
  where
    on_each : (xs : List ℕ) → list_all (λ p. nat_lt p (n * n)) xs ≡ true → All (IsOn n) (map (place_of n) xs)
    on_each [] h k d low = absurd (omega arith)
    on_each (x ∷ xs) h zero d low = let at : x < n * n = ltb-true x (n * n) (and_parts (nat_lt x (n * n)) (list_all (λ p. nat_lt p (n * n)) xs) h).0 in record { row_within = row_small n x least at; column_within = column_small n x least }
    on_each (x ∷ xs) h (suc k) d low = on_each xs (and_parts (nat_lt x (n * n)) (list_all (λ p. nat_lt p (n * n)) xs) h).1 k d (omega arith)

pub each_on : (i : ℕ) (set : List Place) → (n : ℕ) (values : List (List ℕ)) → 1 ≤ n → EachFrom n values i set → All (IsOn n) set
each_on i set n values least (ps, is, left) = subst (All (IsOn n)) (sym is) (in_board n ps least)

-- ---- every point of the board

pub none_in : (n : ℕ) (set : List Place) → set ≡ [] → set ≡ points_in n (range_with_len 0 0)
none_in n set e = e ∙ sym (places_none n (holds_point []) (λ i low. refl))

pub one_in : (n k : ℕ) (old : List Place) (p : Place) → 0 < n → k < n * n → p ≡ place_of n k → old ≡ points_in n (range_with_len 0 k) → with_place old p ≡ points_in n (range_with_len 0 (k + 1))
one_in n k old p some on at had =
    ap₂ (λ s q. with_place s q) had at ∙ put n k (range_with_len 0 k) some on
    ∙ ap (points_in n) (sym (sym (map-id (range_with_len 0 (k + 1))) ∙ map-range_with_len_more (λ x. x) 0 k k (omega arith) ∙ ap (λ xs. xs ++ k ∷ []) (map-id (range_with_len 0 k))))

all_pass : (xs : List ℕ) → filter (λ _. true) xs ≡ xs
all_pass [] = refl
all_pass (x ∷ xs) = ap (λ ys. x ∷ ys) (all_pass xs)

pub all_in : (n : ℕ) (set : List Place) → set ≡ points_in n (points n) → map (number_of n) set ≡ points n
all_in n set e =
    ap (map (number_of n)) e ∙ numbers_in n (points n)
    ∙ ap (λ xs. filter (holds_point xs) (points n)) (sym (all_pass (points n))) ∙ picked_again n (λ _. true) ∙ all_pass (points n)
