-- The points beside a point are passed one by one.
use Rattle.go_chains.proofs.Common.{◌≡◌, ℕ, Bool, ◌+◌, ◌<◌, ◌≤◌, ◌⊎◌, inl, inr, true, List, [], ◌∷◌, ◌++◌, length, map, take, drop, take-append-drop, take_all, get_or, refl, sym, ◌∙◌, ap, subst, arith, length-map, list_any, any_to, take_at_read, map-append, Place, number_of, adjacent, neighbours, member_neighbours, neighbours_member, IsIn, total, has_more}
use Rattle.go_chains.proofs.Totals.{total_append}
use Rattle.go_chains.proofs.Exchange.{in_append, in_left, in_right}
use Rattle.go_chains.proofs.Counts.{in_member}

module _ (g : Place → ℕ) (items : List Place) (i : ℕ) (x : Place) (within : i < length items) (is : x ≡ get_or items i x) where
  pub one_more : map g (take (i + 1) items) ≡ map g (take i items) ++ g x ∷ []
  one_more =
      let one = (take_at_read items i x within).1 in
      let last : get_or items i x ∷ [] ≡ x ∷ [] = ap (λ y. y ∷ []) (sym is) in
      ap (map g) (one ∙ ap (λ l. take i items ++ l) last) ∙ map-append g (take i items) (x ∷ [])

  pub total_more : (f : ℕ → ℕ) → total f (map g (take (i + 1) items)) ≡ total f (map g (take i items)) + f (g x)
  total_more f =
      let e : total f (map g (take i items) ++ g x ∷ []) ≡ total f (map g (take i items)) + (f (g x) + 0) = total_append f (map g (take i items)) (g x ∷ []) in
      ap (total f) one_more ∙ omega (arith, e)

  pub in_more : (y : ℕ) → IsIn y (map g (take (i + 1) items)) → IsIn y (map g (take i items)) ⊎ (y ≡ g x)
  in_more y m = elim (in_append y (map g (take i items)) (g x ∷ []) (subst (IsIn y) one_more m)) [
    | inl before ↦ inl before
    | inr last ↦ elim last [ inl e ↦ inr e | inr none ↦ absurd none ]
  ]

  -- the item is beside the point whose neighbours the items are
  pub item_beside : (n p : ℕ) → map g items ≡ neighbours n p → adjacent n p (g x) ≡ true
  item_beside n p those =
      let here : IsIn (g x) (map g (take (i + 1) items)) = subst (IsIn (g x)) (sym one_more) (in_right (g x) (map g (take i items)) (g x ∷ []) (inl refl)) in
      let whole : map g items ≡ map g (take (i + 1) items) ++ map g (drop (i + 1) items) = ap (map g) (sym (take-append-drop (i + 1) items)) ∙ map-append g (take (i + 1) items) (drop (i + 1) items) in
      let found : IsIn (g x) (map g items) = subst (IsIn (g x)) (sym whole) (in_left (g x) (map g (take (i + 1) items)) (map g (drop (i + 1) items)) here) in
      member_neighbours n p (g x) (in_member (g x) (neighbours n p) (subst (IsIn (g x)) those found))

-- the points beside a point, as a loop goes over them: found by calls at a size, and lent as items
module _ {n m p : ℕ} {found items : List Place} (point : Place) (same : m ≡ n) (exact : map (number_of m) found ≡ neighbours m (number_of m point)) (back : number_of m point ≡ p) (value : items ≡ found) where
  pub those_beside : map (number_of n) items ≡ neighbours n p
  those_beside = ap (map (number_of n)) value ∙ subst (λ k. map (number_of k) found ≡ neighbours k p) same (exact ∙ ap (neighbours m) back)

  pub as_many : length items ≡ length (neighbours n p)
  as_many = sym (length-map items (number_of n)) ∙ ap (λ l. length l) those_beside

  -- at the end of the loop it has gone over all
  pub all_beside : (i : ℕ) → length items ≤ i → map (number_of n) (take i items) ≡ neighbours n p
  all_beside i past = ap (map (number_of n)) (take_all i items past) ∙ those_beside

  pub is_beside : (i : ℕ) (x : Place) → i < length items → x ≡ get_or items i x → adjacent n p (number_of n x) ≡ true
  is_beside i x within is = item_beside (number_of n) items i x within is n p those_beside

  -- what holds of one of them holds of some point beside the point
  pub some_beside : (i : ℕ) (x : Place) → i < length items → x ≡ get_or items i x → (f : ℕ → Bool) → f (number_of n x) ≡ true → true ≡ list_any f (neighbours n p)
  some_beside i x within is f holds = sym (any_to f (number_of n x) (neighbours n p) (neighbours_member n p (number_of n x) (is_beside i x within is)) holds)

-- whether the chain of a neighbour has more liberties, as it was asked
pub more_at : {n m number : ℕ} {more : Bool} (heads counts : List ℕ) (p : ℕ) (x : Place) → m ≡ n → number ≡ number_of m x → more ≡ has_more m heads counts p number → more ≡ has_more n heads counts p (number_of n x)
more_at {m = m} heads counts p x same at asked = asked ∙ ap (has_more m heads counts p) at ∙ ap (λ k. has_more k heads counts p (number_of k x)) same
