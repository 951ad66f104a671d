-- The places that are kept for the buckets of a history, as it changes.
use Rattle.go_turns.proofs.Common.{◌≡◌, ℕ, ◌%◌, ◌<◌, ◌≤◌, inl, inr, false, List, [], ◌∷◌, ◌++◌, length, length-append, length-set, set, take, get_or, slice_index, if◌then◌else◌, sym, ◌∙◌, ap, subst, arith, list_any, cases_eq, cases_lt, get_or-set_other, get_or_append_left, get_or_push, length-take-le, Cell, same_cells, same_cells_eq, true_or_false, HasNoneOf, bucket_count, key_of}
use Rattle.std.proofs.lemmas.List.{get_or-take}
use Rattle.go_turns.specs.Private.Buckets.{NoneBefore}
use Rattle.go_turns.proofs.Repeats.{any_none, no_position}

pub lowered : (h : List (List Cell)) (places lower : List ℕ) → length lower ≡ length places → ((b : ℕ) → slice_index lower b ≤ slice_index places b) → NoneBefore h places → NoneBefore h lower
lowered h places lower long less s = record {
  full = long ∙ s.full;
  none = λ k low. let b : ℕ = key_of (get_or h k []) % bucket_count in omega (arith, less b, s.none k low);
}

-- one colouring more
pub one_more : (h : List (List Cell)) (c : List Cell) (places : List ℕ) → slice_index places (key_of c % bucket_count) ≤ length h → NoneBefore h places → NoneBefore (h ++ c ∷ []) places
one_more h c places here s = record {
  full = s.full;
  none = λ k low. elim (cases_lt k (length h)) [
    | inl less ↦ subst (λ (d : List Cell). slice_index places (key_of d % bucket_count) ≤ k) (sym (get_or_append_left h (c ∷ []) [] k less)) (s.none k less)
    | inr past ↦
        (let last : k ≡ length h = omega (arith, past, low, length-append h (c ∷ [])) in
        subst (λ (d : List Cell). slice_index places (key_of d % bucket_count) ≤ k) (sym (get_or_push h c [] k (sym last))) (omega (arith, here, last)))
  ];
}

-- a colouring that is added if it is new
pub one_joined : (h new : List (List Cell)) (c : List Cell) (places : List ℕ) → new ≡ (if list_any (same_cells c) h then h else h ++ c ∷ []) → slice_index places (key_of c % bucket_count) ≤ length h → NoneBefore h places → NoneBefore new places
one_joined h new c places now here s = elim (true_or_false (list_any (same_cells c) h)) [
  | inl some ↦ subst (λ l. NoneBefore l places) (sym (now ∙ ap (λ b. if b then h else h ++ c ∷ []) some)) s
  | inr none ↦ subst (λ l. NoneBefore l places) (sym (now ∙ ap (λ b. if b then h else h ++ c ∷ []) none)) (one_more h c places here s)
]

-- a front of the history
pub in_front : (h new : List (List Cell)) (m : ℕ) (places : List ℕ) → m ≤ length h → new ≡ take m h → NoneBefore h places → NoneBefore new places
in_front h new m places within front s = subst (λ l. NoneBefore l places) (sym front) (record {
  full = s.full;
  none = λ k low.
      (let less : k < m = omega (arith, low, length-take-le m h within) in
      subst (λ (d : List Cell). slice_index places (key_of d % bucket_count) ≤ k) (sym (get_or-take m h k [] less)) (s.none k (omega (arith, less, within))));
})

-- a bucket that has no place below the length may be given any
pub raised : (h : List (List Cell)) (places : List ℕ) (b v : ℕ) → slice_index places b ≡ length h → NoneBefore h places → NoneBefore h (set places b v)
raised h places b v none s = record {
  full = length-set places b v ∙ s.full;
  none = λ k low. elim (cases_eq (key_of (get_or h k []) % bucket_count) b) [
    | inl same ↦ absurd (omega (arith, low, none, subst (λ d. slice_index places d ≤ k) same (s.none k low)))
    | inr other ↦ subst (λ x. x ≤ k) (sym (get_or-set_other places b (key_of (get_or h k []) % bucket_count) v 0 other)) (s.none k low)
  ];
}

-- no colouring of an empty bucket has occurred
pub has_none : (h : List (List Cell)) (places : List ℕ) (key : ℕ) → length h ≤ slice_index places (key % bucket_count) → NoneBefore h places → HasNoneOf h key
has_none h places key past s c keyed = no_position (same_cells c) h (any_none (same_cells c) h apart)
  where
    apart : (k : ℕ) → k < length h → same_cells c (get_or h k []) ≡ false
    apart k low = elim (true_or_false (same_cells c (get_or h k []))) [
      | inl passed ↦
          (let same : c ≡ get_or h k [] = same_cells_eq c (get_or h k []) passed in
          let at : slice_index places (key % bucket_count) ≤ k = subst (λ d. slice_index places (d % bucket_count) ≤ k) (ap key_of (sym same) ∙ keyed) (s.none k low) in
          absurd (omega (arith, at, past, low)))
      | inr failed ↦ failed
    ]

-- the place that is kept for the bucket of a colouring that is added next
pub low_here : (h : List (List Cell)) (c entry : List Cell) (places : List ℕ) (bucket place key : ℕ) → slice_index places bucket ≤ place → bucket ≡ key % bucket_count → place ≡ length h → key ≡ key_of c → entry ≡ c → slice_index places (key_of entry % bucket_count) ≤ length h
low_here h c entry places bucket place key own at long keyed same =
    let is : bucket ≡ key_of entry % bucket_count = at ∙ ap (λ k. k % bucket_count) (keyed ∙ ap key_of (sym same)) in
    subst (λ (b : ℕ). slice_index places b ≤ length h) is (omega (arith, own, long))
