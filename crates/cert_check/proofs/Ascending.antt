-- Lists of colourings that ascend: looking one up by halving, and whether one list stands on another by one pass over both.
use Rattle.cert_check.proofs.Common.{◌≡◌, ℕ, zero, suc, ◌+◌, ◌<◌, ◌≤◌, inl, inr, Bool, true, false, ◌&&◌, ◌||◌, List, [], ◌∷◌, ◌++◌, drop, length, get_or, slice_index_or, Option, Some, None, IfSome, is_some, not, slice_get_within, Ordering, Less, Equal, Greater, refl, sym, ap, ◌∙◌, subst, arith, list_any, list_all, is_lt, ordering_reverse, get_or_from_slice_get, drop-length, Cell, same_cells, same_cells_eq, same_cells_symm, text_order, same_cells_ties, has_occurred, repeats, last_of, Ascends}
use Rattle.std.proofs.Common.{slice_get}
use Rattle.std.proofs.lemmas.Bool.{cases_lt}
use Rattle.std.proofs.lemmas.Option.{slice_get_cases, slice_get-get_or}
use Rattle.std.specs.Ordering.{is_eq}
use Rattle.std.specs.Cmp.{IsTotalOrder}
use Rattle.std.specs.Cmp.Lexicographic.{on_texts}
use Rattle.std.proofs.Math.Seq.{drop-cons}
use Rattle.go_points.specs.Text.{text_of}
use Rattle.std.proofs.lemmas.List.Folds.{list_any_at}

pub order : IsTotalOrder text_order
order = on_texts text_of

-- ONE MORE

pub ascends_more : (cs : List (List Cell)) (c : List Cell) → Ascends cs → IfSome (last_of cs) (λ d. text_order d c ≡ Less) → Ascends (cs ++ c ∷ [])
ascends_more [] c h last = (tt, tt)
ascends_more (d ∷ []) c h last = (last, (tt, tt))
ascends_more (d ∷ e ∷ cs) c h last = (h.0, ascends_more (e ∷ cs) c h.1 last)

-- each is before all after it
abbrev pub AllAbove : List Cell → List (List Cell) → Type 0
AllAbove c [] = Unit {0}
AllAbove c (d ∷ cs) = (text_order c d ≡ Less) × AllAbove c cs

pub above_from : (c d : List Cell) (cs : List (List Cell)) → text_order c d ≡ Less → AllAbove d cs → AllAbove c cs
above_from c d [] e h = tt
above_from c d (x ∷ cs) e h = (order.trans c d x e h.0, above_from c d cs e h.1)

pub above_all : (c : List Cell) (cs : List (List Cell)) → Ascends (c ∷ cs) → AllAbove c cs
above_all c [] h = tt
above_all c (d ∷ cs) h = (h.0, above_from c d cs h.0 (above_all d cs h.1))

less_apart : (c d : List Cell) → text_order c d ≡ Less → same_cells c d ≡ false
less_apart c d e = same_cells_ties c d ∙ ap is_eq e

apart_other : (c d : List Cell) → same_cells c d ≡ false → same_cells d c ≡ false
apart_other c d e = same_cells_symm d c ∙ e

pub none_among : (c : List Cell) (cs : List (List Cell)) → AllAbove c cs → has_occurred cs c ≡ false
none_among c [] h = refl
none_among c (d ∷ cs) h = ap (λ b. b || has_occurred cs c) (less_apart c d h.0) ∙ none_among c cs h.1

-- none stands twice
pub ascends_once : (cs : List (List Cell)) → Ascends cs → repeats cs ≡ false
ascends_once [] h = refl
ascends_once (c ∷ cs) h = ap (λ b. b || repeats cs) (none_among c cs (above_all c cs h)) ∙ ascends_once cs h.1

pub ascends_drop : (i : ℕ) (cs : List (List Cell)) → Ascends cs → Ascends (drop i cs)
ascends_drop zero cs h = h
ascends_drop (suc i) [] h = tt
ascends_drop (suc i) (c ∷ cs) h = ascends_drop i cs h.1

-- HALVING

next_above : (cs : List (List Cell)) (k : ℕ) (d : List Cell) → Ascends cs → k + 1 < length cs → text_order (slice_index_or cs k d) (slice_index_or cs (k + 1) d) ≡ Less
next_above [] k d h low = absurd (omega arith)
next_above (a ∷ []) k d h low = absurd (omega arith)
next_above (a ∷ b ∷ cs) zero d h low = h.0
next_above (a ∷ b ∷ cs) (suc k) d h low =
    let next : suc (k + 1) ≡ suc k + 1 = omega arith in
    ap (λ m. text_order (slice_index_or (b ∷ cs) k d) (slice_index_or (a ∷ b ∷ cs) m d)) (sym next) ∙ next_above (b ∷ cs) k d h.1 (omega arith)

-- each is before those after it
before_at : (cs : List (List Cell)) (i j : ℕ) (d : List Cell) → Ascends cs → i < j → j < length cs → text_order (slice_index_or cs i d) (slice_index_or cs j d) ≡ Less
before_at cs i zero d h less low = absurd (omega (arith, less))
before_at cs i (suc j) d h less low =
    let last : text_order (slice_index_or cs j d) (slice_index_or cs (suc j) d) ≡ Less =
    ap (λ k. text_order (slice_index_or cs j d) (slice_index_or cs k d)) (let e : suc j ≡ j + 1 = omega arith in e) ∙ next_above cs j d h (omega (arith, low)) in
    elim (cases_lt i j) [
      | inl further ↦ order.trans (slice_index_or cs i d) (slice_index_or cs j d) (slice_index_or cs (suc j) d) (before_at cs i j d h further (omega (arith, low))) last
      | inr near ↦ ap (λ k. text_order (slice_index_or cs k d) (slice_index_or cs (suc j) d)) (let e : i ≡ j = omega (arith, less, near) in e) ∙ last
    ]

none_at : (f : List Cell → Bool) (cs : List (List Cell)) (d : List Cell) → ((k : ℕ) → k < length cs → f (slice_index_or cs k d) ≡ false) → list_any f cs ≡ false
none_at f [] d h = refl
none_at f (c ∷ cs) d h = ap (λ b. b || list_any f cs) (h 0 (omega arith)) ∙ none_at f cs d (λ k low. h (suc k) (omega (arith, low)))

pub same_from : (c d : List Cell) → text_order d c ≡ Equal → same_cells c d ≡ true
same_from c d e = same_cells_symm c d ∙ same_cells_ties d c ∙ ap is_eq e

-- those below the first number are before the colouring, and those from the second on after it
pub record IsSplit (cs : List (List Cell)) (c : List Cell) (low high : ℕ) : Type 0 where
  pub below : (k : ℕ) → k < low → text_order (slice_index_or cs k c) c ≡ Less
  pub above : (k : ℕ) → high ≤ k → k < length cs → text_order (slice_index_or cs k c) c ≡ Greater
  pub within : high ≤ length cs

pub is_less : (o : Ordering) → is_lt o ≡ true → o ≡ Less
is_less Less e = refl
is_less Equal e = absurd (cc)
is_less Greater e = absurd (cc)

is_equal : (o : Ordering) → is_eq o ≡ true → o ≡ Equal
is_equal Less e = absurd (cc)
is_equal Equal e = refl
is_equal Greater e = absurd (cc)

pub is_greater : (o : Ordering) → is_eq o ≡ false → is_lt o ≡ false → o ≡ Greater
is_greater Less e f = absurd (cc)
is_greater Equal e f = absurd (cc)
is_greater Greater e f = refl

module _ (cs : List (List Cell)) (c : List Cell) where
  pub split_start : IsSplit cs c 0 (length cs)
  split_start = record {
    below = λ k low. absurd (omega (arith, low));
    above = λ k high low. absurd (omega (arith, high, low));
    within = omega arith;
  }

  -- between the two numbers the colouring was looked for
  pub split_rest : (low high : ℕ) (b : Bool) → IsSplit cs c low high → (b ≡ true → has_occurred cs c ≡ true)
      → (b ≡ false → (k : ℕ) (x : List Cell) → low ≤ k → k < high → slice_get cs k ≡ Some x → same_cells c x ≡ false) → b ≡ has_occurred cs c
  split_rest low high true is found none = sym (found refl)
  split_rest low high false is found none = sym (none_at (same_cells c) cs c (λ k there. elim (cases_lt k low) [
    | inl before ↦ other k (ap is_eq (is.below k before))
    | inr after ↦ elim (cases_lt k high) [
      | inl within ↦ none refl k (slice_index_or cs k c) after within (slice_get-get_or cs k c there)
      | inr past ↦ other k (ap is_eq (is.above k past there))
    ]
  ]))
    where
      other : (k : ℕ) → is_eq (text_order (slice_index_or cs k c) c) ≡ false → same_cells c (slice_index_or cs k c) ≡ false
      other k e = apart_other (slice_index_or cs k c) c (same_cells_ties (slice_index_or cs k c) c ∙ e)

  module _ (low high middle : ℕ) (x : List Cell) (up : Ascends cs) (is : IsSplit cs c low high) (on : middle < high) (at : slice_get cs middle ≡ Some x) where
    here : slice_index_or cs middle c ≡ x
    here = get_or_from_slice_get cs middle x c at

    there : middle < length cs
    there = omega (arith, on, is.within)

    pub split_found : is_eq (text_order x c) ≡ true → has_occurred cs c ≡ true
    split_found e = list_any_at (same_cells c) cs middle c there (ap (same_cells c) here ∙ same_from c x (is_equal (text_order x c) e))

    pub split_low : is_lt (text_order x c) ≡ true → IsSplit cs c (middle + 1) high
    split_low e =
        let less : text_order (slice_index_or cs middle c) c ≡ Less = ap (λ y. text_order y c) here ∙ is_less (text_order x c) e in
        record {
          below = λ k low. elim (cases_lt k middle) [
            | inl before ↦ order.trans (slice_index_or cs k c) (slice_index_or cs middle c) c (before_at cs k middle c up before there) less
            | inr last ↦ ap (λ i. text_order (slice_index_or cs i c) c) (let same : k ≡ middle = omega (arith, low, last) in same) ∙ less
          ];
          above = is.above;
          within = is.within;
        }

    pub split_high : is_eq (text_order x c) ≡ false → is_lt (text_order x c) ≡ false → IsSplit cs c low middle
    split_high e f =
        let greater : text_order (slice_index_or cs middle c) c ≡ Greater = ap (λ y. text_order y c) here ∙ is_greater (text_order x c) e f in
        let less : text_order c (slice_index_or cs middle c) ≡ Less = order.antisymm c (slice_index_or cs middle c) ∙ ap ordering_reverse greater in
        record {
          below = is.below;
          above = λ k high low. elim (cases_lt middle k) [
            | inl after ↦ order.antisymm (slice_index_or cs k c) c ∙ ap ordering_reverse (order.trans c (slice_index_or cs middle c) (slice_index_or cs k c) less (before_at cs middle k c up after low))
            | inr first ↦ ap (λ i. text_order (slice_index_or cs i c) c) (let same : k ≡ middle = omega (arith, high, first) in same) ∙ greater
          ];
          within = omega (arith, there);
        }

-- ONE PASS OVER BOTH

abbrev pub stand_on : List (List Cell) → List (List Cell) → Bool
stand_on list few = list_all (has_occurred list) few

-- what is apart from each is not looked for
without : (x : List Cell) (xs ys : List (List Cell)) → AllAbove x ys → stand_on (x ∷ xs) ys ≡ stand_on xs ys
without x xs [] h = refl
without x xs (y ∷ ys) h =
    ap (λ b. (b || has_occurred xs y) && stand_on (x ∷ xs) ys) (apart_other x y (less_apart x y h.0))
    ∙ ap (λ b. has_occurred xs y && b) (without x xs ys h.1)

pub pass_found : (x : List Cell) (xs : List (List Cell)) (y : List Cell) (ys : List (List Cell)) → Ascends (y ∷ ys) → same_cells y x ≡ true → stand_on (x ∷ xs) (y ∷ ys) ≡ stand_on xs ys
pass_found x xs y ys h e =
    ap (λ b. (b || has_occurred xs y) && stand_on (x ∷ xs) ys) e
    ∙ without x xs ys (subst (λ z. AllAbove z ys) (same_cells_eq y x e) (above_all y ys h))

pub pass_other : (x : List Cell) (xs : List (List Cell)) (y : List Cell) (ys : List (List Cell)) → Ascends (x ∷ xs) → Ascends (y ∷ ys) → same_cells y x ≡ false → stand_on (x ∷ xs) (y ∷ ys) ≡ stand_on xs (y ∷ ys)
pass_other x xs y ys h k e = go (text_order x y) refl
  where
    go : (o : Ordering) → text_order x y ≡ o → stand_on (x ∷ xs) (y ∷ ys) ≡ stand_on xs (y ∷ ys)
    go Less less = without x xs (y ∷ ys) (less, above_from x y ys less (above_all y ys k))
    go Equal same = absurd (cc (sym e ∙ same_from y x same))
    go Greater more =
        let less : text_order y x ≡ Less = order.antisymm y x ∙ ap ordering_reverse more in
        let none : has_occurred xs y ≡ false = none_among y xs (above_from y x xs less (above_all x xs h)) in
        ap (λ b. (b || has_occurred xs y) && stand_on (x ∷ xs) ys) e ∙ ap (λ b. b && stand_on (x ∷ xs) ys) none ∙ sym (ap (λ b. b && stand_on xs ys) none)

module _ (few list : List (List Cell)) where
  -- what is left of both decides
  abbrev pub PassLeft : ℕ → ℕ → Type 0
  PassLeft wanted i = (stand_on (drop i list) (drop wanted few) ≡ stand_on list few) × (wanted ≤ length few)

  module _ (wanted i : ℕ) (y x : List Cell) (low : i < length list) (at : get_or list i x ≡ x) (few_up : Ascends few) (up : Ascends list) where
    list_step : drop i list ≡ x ∷ drop (i + 1) list
    list_step = drop-cons list i x low ∙ ap (λ z. z ∷ drop (suc i) list) at ∙ ap (λ k. x ∷ drop k list) (let e : suc i ≡ i + 1 = omega arith in e)

    few_step : wanted < length few → get_or few wanted y ≡ y → drop wanted few ≡ y ∷ drop (wanted + 1) few
    few_step less here = drop-cons few wanted y less ∙ ap (λ z. z ∷ drop (suc wanted) few) here ∙ ap (λ k. y ∷ drop k few) (let e : suc wanted ≡ wanted + 1 = omega arith in e)

    pub left_found : wanted < length few → get_or few wanted y ≡ y → same_cells y x ≡ true → PassLeft wanted i → PassLeft (wanted + 1) (i + 1)
    left_found less here e h =
        let two = few_step less here in (
          sym (pass_found x (drop (i + 1) list) y (drop (wanted + 1) few) (subst Ascends two (ascends_drop wanted few few_up)) e)
              ∙ ap (λ xs. stand_on xs (y ∷ drop (wanted + 1) few)) (sym list_step) ∙ ap (stand_on (drop i list)) (sym two) ∙ h.0,
          omega arith,
        )

    pub left_other : wanted < length few → get_or few wanted y ≡ y → same_cells y x ≡ false → PassLeft wanted i → PassLeft wanted (i + 1)
    left_other less here e h =
        let two = few_step less here in (
          ap (stand_on (drop (i + 1) list)) two
              ∙ sym (pass_other x (drop (i + 1) list) y (drop (wanted + 1) few) (subst Ascends list_step (ascends_drop i list up)) (subst Ascends two (ascends_drop wanted few few_up)) e)
              ∙ ap (λ xs. stand_on xs (y ∷ drop (wanted + 1) few)) (sym list_step) ∙ ap (stand_on (drop i list)) (sym two) ∙ h.0,
          h.1,
        )

  pub left_none : (wanted i : ℕ) → wanted ≡ length few → PassLeft wanted i → stand_on list few ≡ true
  left_none wanted i all h = sym h.0 ∙ ap (λ k. stand_on (drop i list) (drop k few)) all ∙ ap (stand_on (drop i list)) (drop-length few)

  pub left_some : (wanted : ℕ) (y : List Cell) → wanted < length few → PassLeft wanted (length list) → stand_on list few ≡ false
  left_some wanted y less h = sym h.0 ∙ ap (λ xs. stand_on xs (drop wanted few)) (drop-length list) ∙ ap (stand_on []) (drop-cons few wanted y less)

  -- none is left to be looked for
  pub left_all : (wanted i : ℕ) → slice_get few wanted ≡ None → PassLeft wanted i → stand_on list few ≡ true
  left_all wanted i none h = elim (slice_get_cases few wanted).1 [
    | inl one ↦ absurd (cc (none, one.2))
    | inr past ↦ left_none wanted i (let low = h.1 in omega (arith, past.0, low)) h
  ]

  pub left_end : (wanted : ℕ) (next : Option (List Cell)) (b : Bool) → next ≡ slice_get few wanted → is_some next ≡ not b → PassLeft wanted (length list) → b ≡ stand_on list few
  left_end wanted None true at e h = sym (left_all wanted (length list) (sym at) h)
  left_end wanted (Some y) false at e h = sym (left_some wanted y (slice_get_within few wanted y (sym at)) h)
  left_end wanted None false at e h = absurd (cc e)
  left_end wanted (Some y) true at e h = absurd (cc e)
