-- The table's words over the entries of the map below it.
use Rattle.std.proofs.Common.{◌≡◌, ℕ, zero, suc, ◌+◌, ◌-◌, ◌<◌, ◌≤◌, Bool, true, false, cond, ◌&&◌, nat_eq, List, [], ◌∷◌, length, take, Option, Some, None, IsSome, refl, sym, ap, ◌∙◌, subst, arith}
use Rattle.std.proofs.lemmas.Bool.{and_parts, eqb-true}
use Rattle.std.proofs.lemmas.List.{take_all}
use Rattle.std.specs.Option.{option_map_or}
use Rattle.std.specs.Map.{keys_of, lookup, lookup_entry, remove_entry}
use Rattle.std.specs.List.{IsDistinct, AllByRecursion}
use Rattle.lru.specs.LruCache.{promoted as entries_promoted, put_entries, lru_cache}
use Rattle.go_points.specs.declared.Colour.{Colour}
use Rattle.go_points.specs.declared.Colour.TheVariants.{Black, White}
use Rattle.go_points.specs.Grid.{same_colour}
use Rattle.pn_table.specs.declared.key.Key.{Key}
use Rattle.pn_table.specs.declared.numbers.Numbers.{Numbers}
use Rattle.go_points.specs.contracts.ColourPartialEq.TheImpl.{eq-value as of_colours}
use Rattle.pn_table.specs.contracts.key.KeyPartialEq.TheImpl.{eq-value}
use Rattle.pn_table.specs.Table.{same_key, others, promoted}
use Rattle.go_points.specs.Equal.{same_colour_eq}

-- What `==` of keys answers.
abbrev pub E : Key → Key → Bool
E = eq-value.it

same_is : (j k : Key) → same_key j k ≡ true → j ≡ k
same_is j k h =
    let first = and_parts (nat_eq j.position k.position) (same_colour j.mover k.mover && nat_eq j.passes k.passes) h in
    let rest = and_parts (same_colour j.mover k.mover) (nat_eq j.passes k.passes) first.1 in
    λ i. record {
      position = eqb-true j.position k.position first.0 i;
      mover = same_colour_eq j.mover k.mover rest.0 i;
      passes = eqb-true j.passes k.passes rest.1 i;
    }

same_mover : (a b : Colour) → (of_colours.it) a b ≡ same_colour a b
same_mover Black Black = refl
same_mover Black White = refl
same_mover White Black = refl
same_mover White White = refl

derived : (j k : Key) → E j k ≡ same_key j k
derived j k = ap (λ b. nat_eq j.position k.position && (b && nat_eq j.passes k.passes)) (same_mover j.mover k.mover)

equality : E ≡ same_key
equality = λ i. λ j k. derived j k i

take_first : {X : Type 0} (most : ℕ) (x : X) (xs : List X) → 0 < most → x ∷ take (most - 1) xs ≡ take most (x ∷ xs)
take_first zero x xs h = let never : ⊥ = omega arith in absurd never
take_first (suc n) x xs h = ap (λ m. x ∷ take m xs) less where
  less : suc n - 1 ≡ n
  less = omega arith

module _ (key : Key) where
  -- The key's pair is not among pairs whose keys differ from one that is equal to it.
  none_left : (k : Key) (es : List (Key × Numbers)) → key ≡ k → AllByRecursion (λ y. same_key k y ≡ false) (keys_of es) → others key es ≡ es
  none_left k [] same apart = refl
  none_left k (e ∷ es) same apart = let differs : same_key key e.0 ≡ false = subst (λ j. same_key j e.0 ≡ false) (sym same) apart.0 in
      rw differs (ap (λ xs. e ∷ xs) (none_left k es same apart.1))

  -- Where no key stands twice, the first pair of a key is the only one.
  first_removed : (es : List (Key × Numbers)) → IsDistinct same_key (keys_of es) → remove_entry (same_key key) es ≡ others key es
  unfolding IsDistinct
  first_removed [] distinct = refl
  first_removed (e ∷ es) distinct = (elim (same_key key e.0) as (λ b. same_key key e.0 ≡ b → remove_entry (same_key key) (e ∷ es) ≡ others key (e ∷ es)) [
    | true ↦ λ h. rw h (sym (none_left e.0 es (same_is key e.0 h) distinct.0))
    | false ↦ λ h. rw h (ap (λ xs. e ∷ xs) (first_removed es distinct.1))
  ]) refl

  absent : (es : List (Key × Numbers)) → lookup_entry (same_key key) es ≡ None → (lookup (same_key key) es ≡ None) × (others key es ≡ es)
  absent [] h = (refl, refl)
  absent (e ∷ es) h = (elim (same_key key e.0) as (λ b. same_key key e.0 ≡ b → (lookup (same_key key) (e ∷ es) ≡ None) × (others key (e ∷ es) ≡ e ∷ es)) [
    | true ↦ λ t. let found : Some e ≡ None = subst (λ b. cond b (Some e) (lookup_entry (same_key key) es) ≡ None) t h in cc
    | false ↦ λ t. let rest = absent es (subst (λ b. cond b (Some e) (lookup_entry (same_key key) es) ≡ None) t h) in
        (rw t rest.0, rw t (ap (λ xs. e ∷ xs) rest.1))
  ]) refl

  -- The pair that is found is the key's, and is one of the list.
  present : (es : List (Key × Numbers)) (f : Key × Numbers) → lookup_entry (same_key key) es ≡ Some f → (f ≡ (key, f.1)) × (lookup (same_key key) es ≡ Some f.1) × (length (remove_entry (same_key key) es) + 1 ≡ length es)
  present [] f h = cc
  present (e ∷ es) f h = (elim (same_key key e.0) as (λ b. same_key key e.0 ≡ b → (f ≡ (key, f.1)) × (lookup (same_key key) (e ∷ es) ≡ Some f.1) × (length (remove_entry (same_key key) (e ∷ es)) + 1 ≡ length (e ∷ es))) [
    | true ↦ λ t.
        let first : Some e ≡ Some f = subst (λ b. cond b (Some e) (lookup_entry (same_key key) es) ≡ Some f) t h in
        let same : e ≡ f = cc in
        (subst (λ x. x ≡ (key, x.1)) same (λ i. (sym (same_is key e.0 t) i, e.1)), rw t (ap (λ x. Some x.1) same), rw t (omega arith))
    | false ↦ λ t. let rest = present es f (subst (λ b. cond b (Some e) (lookup_entry (same_key key) es) ≡ Some f) t h) in
        (rest.0, rw t rest.1, rw t (omega (arith, rest.2)))
  ]) refl

  module _ (es : List (Key × Numbers)) (distinct : IsDistinct same_key (keys_of es)) where
    to_front : (o : Option (Key × Numbers)) → lookup_entry (same_key key) es ≡ o → option_map_or (λ e. e ∷ remove_entry (same_key key) es) o es ≡ promoted key (lookup (same_key key) es) es
    to_front None h = rw (absent es h).0 refl
    to_front (Some e) h = let here = present es e h in
        rw here.1 (ap (λ x. x ∷ remove_entry (same_key key) es) here.0 ∙ ap (λ xs. (key, e.1) ∷ xs) (first_removed es distinct))

    promoted_is : entries_promoted (same_key key) es ≡ promoted key (lookup (same_key key) es) es
    promoted_is = to_front (lookup_entry (same_key key) es) refl

    module _ (n : Numbers) (most : ℕ) (few : length es ≤ most) (room : 0 < most) where
      put_first : (o : Option (Key × Numbers)) → lookup_entry (same_key key) es ≡ o → option_map_or (λ e. (e.0, n) ∷ remove_entry (same_key key) es) o ((key, n) ∷ take (most - 1) es) ≡ take most ((key, n) ∷ others key es)
      put_first None h = take_first most (key, n) es room ∙ ap (λ xs. take most ((key, n) ∷ xs)) (sym (absent es h).1)
      put_first (Some e) h = let here = present es e h in
          let fits : length ((key, n) ∷ remove_entry (same_key key) es) ≤ most = omega (arith, here.2) in
          ap (λ x. (x.0, n) ∷ remove_entry (same_key key) es) here.0
          ∙ sym (take_all most ((key, n) ∷ remove_entry (same_key key) es) fits)
          ∙ ap (λ xs. take most ((key, n) ∷ xs)) (first_removed es distinct)

      put_is : put_entries same_key (lru_cache es most) key n ≡ take most ((key, n) ∷ others key es)
      put_is = put_first (lookup_entry (same_key key) es) refl

-- The same of the test that the code uses.
module _ (key : Key) (es : List (Key × Numbers)) where
  pub found_by : IsSome (lookup (same_key key) es) → IsSome (lookup (E key) es)
  found_by = subst (λ (eq : Key → Key → Bool). IsSome (lookup (same_key key) es) → IsSome (lookup (eq key) es)) (sym equality) (λ h. h)

  pub promoted_by : IsDistinct E (keys_of es) → entries_promoted (E key) es ≡ promoted key (lookup (same_key key) es) es
  promoted_by = subst (λ (eq : Key → Key → Bool). IsDistinct eq (keys_of es) → entries_promoted (eq key) es ≡ promoted key (lookup (same_key key) es) es) (sym equality) (promoted_is key es)

  pub put_by : (n : Numbers) (most : ℕ) → IsDistinct E (keys_of es) → length es ≤ most → 0 < most → put_entries E (lru_cache es most) key n ≡ take most ((key, n) ∷ others key es)
  put_by n most = subst (λ (eq : Key → Key → Bool). IsDistinct eq (keys_of es) → length es ≤ most → 0 < most → put_entries eq (lru_cache es most) key n ≡ take most ((key, n) ∷ others key es)) (sym equality) (λ distinct few room. put_is key es distinct n most few room)
