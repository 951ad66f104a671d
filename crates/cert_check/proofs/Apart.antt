-- Whether none of two lists stands on the other; where both ascend, by one pass over both.
use Rattle.cert_check.proofs.Common.{◌≡◌, ℕ, zero, suc, ◌+◌, ◌<◌, Bool, true, false, not, ◌&&◌, ◌||◌, List, [], ◌∷◌, drop, length, Option, Some, None, Less, Greater, refl, sym, ap, ◌∙◌, subst, arith, slice_get_within, drop-length, is_lt, ordering_reverse, Cell, same_cells, same_cells_symm, text_order, same_cells_ties, has_occurred, Ascends, apart, is_it}
use Rattle.std.proofs.Common.{slice_get}
use Rattle.cert_check.specs.Private.Ascending.{comes_before}
use Rattle.cert_check.proofs.Ascending.{AllAbove, above_all, above_from, ascends_drop, is_greater, is_less, none_among, order}

apart_nothing : (ys : List (List Cell)) → apart ys [] ≡ true
apart_nothing [] = refl
apart_nothing (y ∷ ys) = apart_nothing ys

split : (a b m n : Bool) → (not (a || b) && (m && n)) ≡ ((not a && m) && (not b && n))
split true b m n = refl
split false true true n = refl
split false true false n = refl
split false false m n = refl

pub apart_more : (x : List Cell) (xs ys : List (List Cell)) → apart ys (x ∷ xs) ≡ (not (has_occurred ys x) && apart ys xs)
apart_more x xs [] = refl
apart_more x xs (y ∷ ys) =
    ap (λ b. not (same_cells y x || has_occurred xs y) && b) (apart_more x xs ys)
    ∙ split (same_cells y x) (has_occurred xs y) (not (has_occurred ys x)) (apart ys xs)
    ∙ ap (λ b. b && (not (has_occurred xs y) && apart ys xs)) (ap (λ b. not b && not (has_occurred ys x)) (same_cells_symm y x) ∙ both (same_cells x y) (has_occurred ys x))
  where
    both : (a b : Bool) → (not a && not b) ≡ not (a || b)
    both true b = refl
    both false b = refl

pub apart_turned : (xs ys : List (List Cell)) → apart xs ys ≡ apart ys xs
apart_turned [] ys = sym (apart_nothing ys)
apart_turned (x ∷ xs) ys = ap (λ b. not (has_occurred ys x) && b) (apart_turned xs ys) ∙ sym (apart_more x xs ys)

-- ONE PASS OVER BOTH

pub left_at : (cs : List (List Cell)) (k : ℕ) (d : List Cell) → slice_get cs k ≡ Some d → drop k cs ≡ d ∷ drop (suc k) cs
left_at [] zero d e = absurd (cc)
left_at [] (suc k) d e = absurd (cc)
left_at (c ∷ cs) zero d e = ap (λ x. x ∷ cs) (let same : c ≡ d = cc e in same)
left_at (c ∷ cs) (suc k) d e = left_at cs k d e

left_past : (cs : List (List Cell)) (k : ℕ) → slice_get cs k ≡ None → drop k cs ≡ []
left_past [] zero e = refl
left_past [] (suc k) e = refl
left_past (c ∷ cs) zero e = absurd (cc)
left_past (c ∷ cs) (suc k) e = left_past cs k e

next_of : (k : ℕ) → suc k ≡ k + 1
next_of k = omega arith

-- a place that is passed over
pub passed_within : (cs : List (List Cell)) (k : ℕ) (c : List Cell) → comes_before (slice_get cs k) c ≡ true → k < length cs
passed_within cs k c e = go (slice_get cs k) refl e
  where
    go : (o : Option (List Cell)) → slice_get cs k ≡ o → comes_before o c ≡ true → k < length cs
    go None there less = absurd (cc)
    go (Some d) there less = slice_get_within cs k d there

pub passed_one : (cs : List (List Cell)) (k : ℕ) (c : List Cell) (rest : List (List Cell)) → comes_before (slice_get cs k) c ≡ true → Ascends (c ∷ rest)
    → apart (drop (k + 1) cs) (c ∷ rest) ≡ apart (drop k cs) (c ∷ rest)
passed_one cs k c rest e up = go (slice_get cs k) refl e
  where
    one : (x : List Cell) (xs : List (List Cell)) → is_lt (text_order x c) ≡ true → apart (x ∷ xs) (c ∷ rest) ≡ apart xs (c ∷ rest)
    one x xs lt =
        let less : text_order x c ≡ Less = is_less (text_order x c) lt in
        ap (λ b. not b && apart xs (c ∷ rest)) (none_among x (c ∷ rest) (less, above_from x c rest less (above_all c rest up)))

    go : (o : Option (List Cell)) → slice_get cs k ≡ o → comes_before o c ≡ true → apart (drop (k + 1) cs) (c ∷ rest) ≡ apart (drop k cs) (c ∷ rest)
    go None there less = absurd (cc)
    go (Some x) there less = sym (
        ap (λ ds. apart ds (c ∷ rest)) (left_at cs k x there)
        ∙ one x (drop (suc k) cs) less
        ∙ ap (λ i. apart (drop i cs) (c ∷ rest)) (next_of k)
        )

-- what is left of both decides
abbrev pub MeetLeft : List (List Cell) → List (List Cell) → ℕ → ℕ → Type 0
MeetLeft few list place i = apart (drop place few) (drop i list) ≡ apart few list

module _ (few list : List (List Cell)) (place next i : ℕ) (c : List Cell) (up : Ascends list) (at : slice_get list i ≡ Some c)
    (passed : (rest : List (List Cell)) → Ascends (c ∷ rest) → apart (drop next few) (c ∷ rest) ≡ apart (drop place few) (c ∷ rest)) (had : MeetLeft few list place i) where
  here : drop i list ≡ c ∷ drop (suc i) list
  here = left_at list i c at

  now : apart (drop next few) (c ∷ drop (suc i) list) ≡ apart few list
  now = passed (drop (suc i) list) (subst Ascends here (ascends_drop i list up)) ∙ sym (ap (apart (drop place few)) here) ∙ had

  pub meet_found : is_it (slice_get few next) c ≡ true → apart few list ≡ false
  meet_found e = go (slice_get few next) refl e
    where
      go : (o : Option (List Cell)) → slice_get few next ≡ o → is_it o c ≡ true → apart few list ≡ false
      go None there same = absurd (cc)
      go (Some x) there same =
          sym now
          ∙ ap (λ ds. apart ds (c ∷ drop (suc i) list)) (left_at few next x there)
          ∙ ap (λ b. not (b || has_occurred (drop (suc i) list) x) && apart (drop (suc next) few) (c ∷ drop (suc i) list)) same

  pub meet_other : Ascends few → is_it (slice_get few next) c ≡ false → comes_before (slice_get few next) c ≡ false → MeetLeft few list next (i + 1)
  meet_other few_up e f = ap (λ k. apart (drop next few) (drop k list)) (sym (next_of i)) ∙ go (slice_get few next) refl e f
    where
      go : (o : Option (List Cell)) → slice_get few next ≡ o → is_it o c ≡ false → comes_before o c ≡ false → apart (drop next few) (drop (suc i) list) ≡ apart few list
      go None there other later =
          let none = left_past few next there in
          ap (λ ds. apart ds (drop (suc i) list)) none ∙ sym (ap (λ ds. apart ds (c ∷ drop (suc i) list)) none) ∙ now
      go (Some x) there other later =
          let whole = left_at few next x there in
          let greater : text_order x c ≡ Greater = is_greater (text_order x c) (sym (same_cells_ties x c) ∙ other) later in
          let less : text_order c x ≡ Less = order.antisymm c x ∙ ap ordering_reverse greater in
          let above : AllAbove c (drop next few) = subst (AllAbove c) (sym whole) (less, above_from c x (drop (suc next) few) less (above_all x (drop (suc next) few) (subst Ascends whole (ascends_drop next few few_up)))) in
          sym (ap (λ b. not b && apart (drop next few) (drop (suc i) list)) (none_among c (drop next few) above))
          ∙ sym (apart_more c (drop (suc i) list) (drop next few))
          ∙ now

pub meet_end : (few list : List (List Cell)) (place i : ℕ) → i ≡ length list → MeetLeft few list place i → apart few list ≡ true
meet_end few list place i end had = sym had ∙ ap (λ k. apart (drop place few) (drop k list)) end ∙ ap (apart (drop place few)) (drop-length list) ∙ apart_turned (drop place few) []
