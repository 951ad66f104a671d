-- A history is searched for repeats bucket by bucket.
use Rattle.target_game.proofs.Common.{◌≡◌, ◌≢◌, ℕ, zero, suc, ◌+◌, ◌-◌, ◌%◌, ◌<◌, ◌≤◌, Bool, true, false, ◌||◌, ◌⊎◌, inl, inr, List, [], ◌∷◌, length, take, get_or, set, replicate, None, refl, sym, ◌∙◌, ap, subst, arith, list_any, cases_lt, get_or-set_other, length-replicate, Cell, same_cells, true_or_false, place_in, repeats, no_position, no_element, key_of, bucket_at, bucket_count, AreChained}
use Rattle.std.proofs.Common.{slice_index}
use Rattle.std.proofs.lemmas.Bool.{cases_eq}
use Rattle.std.proofs.lemmas.List.{get_or-take, get_or-set_same, get_or-replicate, get_or_past, length-take-le, take_more}
use Rattle.go_points.specs.Equal.{same_cells_eq}
use Rattle.go_turns.proofs.Repeats.{any_none, once_more, next_is_new}
use Rattle.std.proofs.lemmas.List.Folds.{list_any_at}

zeros : (m k : ℕ) → slice_index (replicate {A = ℕ} m 0) k ≡ 0
zeros m k = elim (cases_lt k m) [
  | inl low ↦ get_or-replicate m k 0 0 low
  | inr past ↦ get_or_past (replicate m 0) k 0 (subst (λ z. z ≤ k) (sym (length-replicate m 0)) past)
]

pub none_chained : (h : List (List Cell)) (latest before : List ℕ) → latest ≡ replicate bucket_count 0 → AreChained h latest before 0
none_chained h latest before is =
    let none : (b : ℕ) → slice_index latest b ≡ 0 = λ b. ap (λ l. slice_index l b) is ∙ zeros bucket_count b in
    record {
      down = λ j low. absurd (omega (arith, low));
      met = λ j k less low. absurd (omega (arith, low));
      kind = λ j low. absurd (omega (arith, low));
      latest_low = λ b. omega (arith, none b);
      latest_met = λ k low. absurd (omega (arith, low));
      latest_kind = λ b some. absurd (omega (arith, none b, some));
    }

-- one place more
module _ (h : List (List Cell)) (latest before : List ℕ) (i b : ℕ) (is : bucket_at h i ≡ b) (room : i < length before) (within : b < length latest) (s : AreChained h latest before i) where
  link : ℕ
  link = slice_index latest b

  now_before : (j : ℕ) → j < i → slice_index (set before i (slice_index latest b)) j ≡ slice_index before j
  now_before j low = get_or-set_other before i j (slice_index latest b) 0 (λ e. omega (arith, low, e))

  here : slice_index (set before i (slice_index latest b)) i ≡ slice_index latest b
  here = get_or-set_same before i (slice_index latest b) 0 room

  newest : slice_index (set latest b (i + 1)) b ≡ i + 1
  newest = get_or-set_same latest b (i + 1) 0 within

  others : (d : ℕ) → d ≢ b → slice_index (set latest b (i + 1)) d ≡ slice_index latest d
  others d other = get_or-set_other latest b d (i + 1) 0 other

  low_or_last : (j : ℕ) → j < i + 1 → (j < i) ⊎ (j ≡ i)
  low_or_last j low = grind (arith, low)

  pub one_chained : AreChained h (set latest b (i + 1)) (set before i (slice_index latest b)) (i + 1)
  one_chained = record {
    down = λ j low. elim (low_or_last j low) [
      | inl less ↦ omega (arith, now_before j less, s.down j less)
      | inr last ↦ (let at : slice_index (set before i (slice_index latest b)) j ≡ slice_index latest b = ap (slice_index (set before i (slice_index latest b))) last ∙ here in omega (arith, at, last, s.latest_low b))
    ];
    met = λ j k less low same. elim (low_or_last j low) [
      | inl lower ↦ omega (arith, now_before j lower, s.met j k less lower same)
      | inr last ↦
          (let at : slice_index (set before i (slice_index latest b)) j ≡ slice_index latest b = ap (slice_index (set before i (slice_index latest b))) last ∙ here in
          let kind : bucket_at h k ≡ b = same ∙ ap (bucket_at h) last ∙ is in
          let met : k < slice_index latest b = subst (λ d. k < slice_index latest d) kind (s.latest_met k (omega (arith, less, last))) in
          omega (arith, at, met))
    ];
    kind = λ j low some. elim (low_or_last j low) [
      | inl lower ↦ ap (λ x. bucket_at h (x - 1)) (now_before j lower) ∙ s.kind j lower (omega (arith, now_before j lower, some))
      | inr last ↦
          (let at : slice_index (set before i (slice_index latest b)) j ≡ slice_index latest b = ap (slice_index (set before i (slice_index latest b))) last ∙ here in
          ap (λ x. bucket_at h (x - 1)) at ∙ s.latest_kind b (omega (arith, at, some)) ∙ sym is ∙ ap (bucket_at h) (sym last))
    ];
    latest_low = λ d. elim (cases_eq d b) [
      | inl same ↦ (let at : slice_index (set latest b (i + 1)) d ≡ i + 1 = ap (slice_index (set latest b (i + 1))) same ∙ newest in omega (arith, at))
      | inr other ↦ omega (arith, others d other, s.latest_low d)
    ];
    latest_met = λ k low. elim (cases_eq (bucket_at h k) b) [
      | inl same ↦ (let at : slice_index (set latest b (i + 1)) (bucket_at h k) ≡ i + 1 = ap (slice_index (set latest b (i + 1))) same ∙ newest in omega (arith, at, low))
      | inr other ↦ elim (low_or_last k low) [
        | inl less ↦ omega (arith, others (bucket_at h k) other, s.latest_met k less)
        | inr last ↦ absurd (other (ap (bucket_at h) last ∙ is))
      ]
    ];
    latest_kind = λ d some. elim (cases_eq d b) [
      | inl same ↦
          (let at : slice_index (set latest b (i + 1)) d ≡ i + 1 = ap (slice_index (set latest b (i + 1))) same ∙ newest in
          let back : slice_index (set latest b (i + 1)) d - 1 ≡ i = omega (arith, at) in
          ap (bucket_at h) back ∙ is ∙ sym same)
      | inr other ↦ ap (λ x. bucket_at h (x - 1)) (others d other) ∙ s.latest_kind d (omega (arith, others d other, some))
    ];
  }

pub bucket_is : (h : List (List Cell)) (i : ℕ) (c : List Cell) (k : ℕ) → c ≡ get_or h i [] → k ≡ key_of c → bucket_at h i ≡ k % bucket_count
unfolding bucket_at
bucket_is h i c k is key = sym (ap (λ x. x % bucket_count) (key ∙ ap key_of is))

-- a colouring that stands before a place where it stands
pub stands_twice : (h : List (List Cell)) (i k : ℕ) (c : List Cell) → c ≡ get_or h i [] → i < length h → k < i → same_cells c (get_or h k []) ≡ true → repeats h ≡ true
stands_twice h i k c is on low same = elim (true_or_false (repeats h)) [
  | inl passed ↦ passed
  | inr once ↦ absurd (cc (
    list_any_at (same_cells (get_or h i [])) (take i h) k [] (omega (arith, low, length-take-le i h (omega (arith, on)))) (ap (same_cells (get_or h i [])) (get_or-take i h k [] low) ∙ ap (λ d. same_cells d (get_or h k [])) (sym is) ∙ same),
    no_element (same_cells (get_or h i [])) (take i h) (next_is_new h i [] on once),
  ))
]

-- one that none of its bucket equals is new
pub is_once : (h : List (List Cell)) (latest before : List ℕ) (i b : ℕ) (c : List Cell) → c ≡ get_or h i [] → i < length h → bucket_at h i ≡ b → AreChained h latest before i
    → ((k : ℕ) → k < slice_index latest b → bucket_at h k ≡ b → same_cells c (get_or h k []) ≡ false) → repeats (take i h) ≡ false → repeats (take (i + 1) h) ≡ false
unfolding bucket_at
is_once h latest before i b c is on kind s failed once =
    let new : place_in (take i h) (get_or h i []) ≡ None =
    no_position (same_cells (get_or h i [])) (take i h) (any_none (same_cells (get_or h i [])) (take i h) (λ k low. differs k (omega (arith, low, length-take-le i h (omega (arith, on)))))) in
    ap repeats (take_more h i [] on) ∙ once_more (take i h) (get_or h i []) once new
  where
    apart : (k : ℕ) → k < i → same_cells (get_or h i []) (get_or h k []) ≡ false
    apart k low = elim (cases_eq (bucket_at h k) b) [
      | inl same ↦ ap (λ d. same_cells d (get_or h k [])) (sym is) ∙ failed k (subst (λ d. k < slice_index latest d) same (s.latest_met k low)) same
      | inr other ↦ elim (true_or_false (same_cells (get_or h i []) (get_or h k []))) [
        | inl passed ↦ absurd (other (ap (λ (d : List Cell). key_of d % bucket_count) (sym (same_cells_eq (get_or h i []) (get_or h k []) passed)) ∙ kind))
        | inr failed ↦ failed
      ]
    ]

    differs : (k : ℕ) → k < i → same_cells (get_or h i []) (get_or (take i h) k []) ≡ false
    differs k low = ap (same_cells (get_or h i [])) (get_or-take i h k [] low) ∙ apart k low

pub none_twice : (h : List (List Cell)) → repeats (take 0 h) ≡ false
none_twice h = refl
