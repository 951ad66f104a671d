-- Points put into sets, one by one.
use Rattle.tsumego_problem.proofs.Common.{◌≡◌, ℕ, ◌+◌, ◌*◌, ◌/◌, ◌%◌, ◌≤◌, ◌<◌, Bool, true, false, cond, ◌&&◌, ◌||◌, nat_le, List, [], ◌∷◌, ◌++◌, length, option_and_then, Option, Some, None, option_map, refl, sym, ◌∙◌, ap, ap₂, subst, arith, rules, range_with_len, false_from_ne_true, list_any-append, points, Place, IsOn, place_of, number_of, with_place, MAX_SIZE, nat_tests, inside, point_at, points_named, rectangle, points_in, Adds}
use Rattle.std.proofs.Common.{◌⊎◌, inl, inr, append-nil, append_assoc, filter}
use Rattle.go_points.proofs.PlaceSets.{places_with}
use Rattle.go_points.specs.Sgf.{sgf_place}
use Rattle.tsumego_problem.specs.Private.Named.{Gains}
pub use Rattle.go_turns.proofs.Openings.{place_back}
use Rattle.go_points.proofs.Sides.{number_below}
use Rattle.target_game.proofs.Playing.{passing_more}

or_false : (a : Bool) → (a || false) ≡ a
or_false a = search rules

or_true : (a : Bool) → (a || true) ≡ true
or_true a = search rules

-- one point more
pub put : (n k : ℕ) (qs : List ℕ) → 0 < n → k < n * n → with_place (points_in n qs) (place_of n k) ≡ points_in n (qs ++ k ∷ [])
put n k qs h g = grind (arith, nat_tests, places_with, list_any-append, false_from_ne_true, or_false, or_true)

-- the place with a number, and the number of a place
-- a loop over the points of a board that puts in those that pass
abbrev pub GainedBelow : ℕ → (ℕ → Bool) → ℕ → List Place → List Place → Type 0
GainedBelow n test k old new = Gains n (filter test (range_with_len 0 k)) old new

pub gained_hit : (n k : ℕ) (test : ℕ → Bool) (old mid : List Place) → 0 < n → k < n * n → test k ≡ true → GainedBelow n test k old mid → GainedBelow n test (k + 1) old (with_place mid (place_of n k))
gained_hit n k test old mid some on passed had ps e =
    ap (λ set. with_place set (place_of n k)) (had ps e)
    ∙ put n k (ps ++ filter test (range_with_len 0 k)) some on
    ∙ ap (points_in n) (append_assoc ps (filter test (range_with_len 0 k)) (k ∷ []))
    ∙ ap (λ xs. points_in n (ps ++ xs)) (sym (passing_more test k ∙ ap (λ b. filter test (range_with_len 0 k) ++ cond b (k ∷ []) []) passed))

pub gained_miss : (n k : ℕ) (test : ℕ → Bool) (old mid : List Place) → test k ≡ false → GainedBelow n test k old mid → GainedBelow n test (k + 1) old mid
gained_miss n k test old mid failed had ps e =
    had ps e
    ∙ ap (λ xs. points_in n (ps ++ xs)) (sym (passing_more test k ∙ ap (λ b. filter test (range_with_len 0 k) ++ cond b (k ∷ []) []) failed ∙ append-nil (filter test (range_with_len 0 k))))

-- the test of a rectangle, by places
pub inside_by : (n k : ℕ) (p q : Place) → IsOn n p → IsOn n q → inside n (number_of n p) (number_of n q) k ≡ (nat_le p.column (k % n) && nat_le (k % n) q.column && nat_le p.row (k / n) && nat_le (k / n) q.row)
inside_by n k p q h g = grind (arith, nat_tests, place_back)

-- two letters that are a point
module _ (n : ℕ) (small : n ≤ MAX_SIZE) where
  pub named_point : (x y : ℕ) (p : Place) → sgf_place n (x ∷ y ∷ []) ≡ Some p → (point_at n x y ≡ Some (number_of n p)) × IsOn n p
  named_point x y p h = search rules

  pub unnamed_point : (x y : ℕ) → sgf_place n (x ∷ y ∷ []) ≡ None → point_at n x y ≡ None
  unnamed_point x y h = search rules

  pub adds_point : (v : List ℕ) (p : Place) (old : List Place) → 1 ≤ n → length v ≡ 2 → sgf_place n v ≡ Some p → Adds n (points_named n v) true old (with_place old p)
  adds_point [] p old some two e = absurd (omega (arith, two))
  adds_point (x ∷ []) p old some two e = absurd (omega (arith, two))
  adds_point (x ∷ y ∷ z ∷ v) p old some two e = absurd (omega (arith, two))
  adds_point (x ∷ y ∷ []) p old some two e =
      let named = named_point x y p e in
      subst (λ o. Adds n (option_map (λ k. k ∷ []) o) true old (with_place old p)) (sym named.0)
      (refl, λ ps f. ap (λ s. with_place s p) f ∙ ap (with_place (points_in n ps)) (sym (place_back n p named.1)) ∙ put n (number_of n p) ps (omega (arith, some)) (number_below n p named.1))

  -- two corners
  cornered : (p q : Place) → IsOn n p → IsOn n q → rectangle n (number_of n p) (number_of n q) ≡ cond (nat_le p.column q.column && nat_le p.row q.row) (Some (filter (inside n (number_of n p) (number_of n q)) (points n))) None
  cornered p q on_p on_q = ap₂ (λ x y. cond (nat_le x.column y.column && nat_le x.row y.row) (Some (filter (inside n (number_of n p) (number_of n q)) (points n))) None) (place_back n p on_p) (place_back n q on_q)

  module _ (v w : List ℕ) (two_v : length v ≡ 2) (two_w : length w ≡ 2) where
    pub corners : (p q : Place) → sgf_place n v ≡ Some p → sgf_place n w ≡ Some q → points_named n (v ++ 58 ∷ w) ≡ cond (nat_le p.column q.column && nat_le p.row q.row) (Some (filter (inside n (number_of n p) (number_of n q)) (points n))) None
    corners p q h g = grind (arith, nat_tests, named_point, cornered)

    pub no_corner : (sgf_place n v ≡ None) ⊎ (sgf_place n w ≡ None) → points_named n (v ++ 58 ∷ w) ≡ None
    no_corner e = by v w two_v two_w e
      where
        none_last : (x : Option ℕ) → option_and_then (λ k. option_and_then (rectangle n k) None) x ≡ None
        none_last None = refl
        none_last (Some k) = refl

        by : (v w : List ℕ) → length v ≡ 2 → length w ≡ 2 → (sgf_place n v ≡ None) ⊎ (sgf_place n w ≡ None) → points_named n (v ++ 58 ∷ w) ≡ None
        by (a ∷ b ∷ []) (d ∷ s ∷ []) g h (inl e) = ap (λ x. option_and_then (λ k. option_and_then (rectangle n k) (point_at n d s)) x) (unnamed_point a b e)
        by (a ∷ b ∷ []) (d ∷ s ∷ []) g h (inr e) = ap (λ y. option_and_then (λ k. option_and_then (rectangle n k) y) (point_at n a b)) (unnamed_point d s e) ∙ none_last (point_at n a b)
        by [] w g h e = absurd (omega (arith, g))
        by (a ∷ []) w g h e = absurd (omega (arith, g))
        by (a ∷ b ∷ c ∷ v) w g h e = absurd (omega (arith, g))
        by (a ∷ b ∷ []) [] g h e = absurd (omega (arith, h))
        by (a ∷ b ∷ []) (d ∷ []) g h e = absurd (omega (arith, h))
        by (a ∷ b ∷ []) (d ∷ s ∷ t ∷ w) g h e = absurd (omega (arith, h))

  pub is_on : (v : List ℕ) (p : Place) → length v ≡ 2 → sgf_place n v ≡ Some p → IsOn n p
  is_on v p h g = search rules
