-- What the reader of lines does, against the definitions, over plain bytes.
use Rattle.proof_cert.proofs.Common.{◌≡◌, ℕ, suc, ◌+◌, ◌<◌, ◌≤◌, ◌^◌, ◌⊎◌, inl, inr, Bool, true, false, cond, not, ◌&&◌, nat_eq, nat_le, List, [], ◌∷◌, length, take, drop, get_or, ◌-◌, ◌||◌, IsTrue, eq-eqb, eqb-true, le-leb, ltb-true, ltb-false, nat_lt, Option, Some, None, position, option_map, Bor, refl, sym, subst, ◌∙◌, ap, arith, all_ascii_digits, position_or_len, is_ascii_digit, after_word, at_space, header_rest, header_tail, value_from}
use Rattle.std.proofs.Common.{MatchOption, ap₂}
use Rattle.std.proofs.Math.Nat.{pow-le-pow_right}
use Rattle.std.proofs.lemmas.Bool.{lt-leb}
use lib.Pointwise.{pointwise}

-- a word at the front
front_yes : (w b : List ℕ) → pointwise nat_eq (take (length w) b) w ≡ true → after_word w b ≡ Some (drop (length w) b)
front_yes [] b h = refl
front_yes (w ∷ ws) [] h = absurd (cc)
front_yes (w ∷ ws) (x ∷ b) h = go (nat_eq x w) refl (front_yes ws b) h
  where
    go : (t : Bool) → nat_eq x w ≡ t → (pointwise nat_eq (take (length ws) b) ws ≡ true → after_word ws b ≡ Some (drop (length ws) b)) → (t && pointwise nat_eq (take (length ws) b) ws) ≡ true → elim (nat_eq w x) [ true ↦ after_word ws b | false ↦ None ] ≡ Some (drop (length ws) b)
    go false e rest g = absurd (cc)
    go true e rest g = let same : nat_eq w x ≡ true = eq-eqb w x (sym (eqb-true x w e)) in rw same (rest g)

front_no : (w b : List ℕ) → pointwise nat_eq (take (length w) b) w ≡ false → after_word w b ≡ None
front_no [] b h = absurd (cc)
front_no (w ∷ ws) [] h = refl
front_no (w ∷ ws) (x ∷ b) h = go (nat_eq w x) refl (front_no ws b)
  where
    go : (t : Bool) → nat_eq w x ≡ t → (pointwise nat_eq (take (length ws) b) ws ≡ false → after_word ws b ≡ None) → ◌≡◌ {A = Option (List ℕ)} (elim t [ true ↦ after_word ws b | false ↦ None ]) None
    go false e rest = refl
    go true e rest = let same : nat_eq x w ≡ true = eq-eqb x w (sym (eqb-true w x e)) in rest (rw same at h)

pub behind_is : (w b : List ℕ) (r : Option (Bor (List ℕ)))
    → MatchOption r (pointwise nat_eq (take (length w) b) w ≡ false) (λ x. (pointwise nat_eq (take (length w) b) w ≡ true) × (x.now ≡ drop (length w) b) × (length x.now + length w ≡ length b))
    → option_map (λ (rest : Bor (List ℕ)). rest.now) r ≡ after_word w b
behind_is w b None h = sym (front_no w b h)
behind_is w b (Some x) h = ap Some h.1 ∙ sym (front_yes w b h.0)

is_digit : (d : ℕ) → 48 ≤ d → d ≤ 57 → is_ascii_digit d ≡ true
is_digit d low high = ap₂ (λ a b. a && b) (le-leb 48 d low) (le-leb d 57 high)

no_digit : (d : ℕ) → (d < 48) ⊎ (57 < d) → is_ascii_digit d ≡ false
no_digit d (inl low) = ap (λ a. a && nat_le d 57) (lt-leb 48 d low)
no_digit d (inr high) = go (nat_le 48 d) (nat_le d 57) (lt-leb d 57 high)
  where
    go : (a b : Bool) → b ≡ false → (a && b) ≡ false
    go true b e = e
    go false b e = refl

-- a number, by its digits from the front: after the first i, whose number is v
pub record NumberSoFar (text : List ℕ) (i v : ℕ) : Type 0 where
  pub digits : all_ascii_digits (drop i text) ≡ all_ascii_digits text
  pub value : value_from v (drop i text) ≡ value_from 0 text
  pub below : v < 10 ^ i

-- seven digits more or less
pub below_limit : (i v : ℕ) → i < 8 → v < 10 ^ i → v < 10000000
below_limit i v few below = let most : 10 ^ i ≤ 10 ^ 7 = pow-le-pow_right {n = 10} (omega arith) {i = i} {j = 7} (omega arith) in omega (arith, most, below)

-- the first space, at the place pl where it stands or else after the end
abbrev place : List ℕ → ℕ
place b = position_or_len (λ x. nat_eq x 32) b

space_at : (b : List ℕ) → place b < length b → at_space b ≡ Some (take (place b) b, drop (suc (place b)) b)
space_at [] h = absurd (omega arith)
space_at (x ∷ b) h = go (nat_eq x 32) h (space_at b)
  where
    go : (t : Bool) → cond (not t) (1 + place b) 0 < suc (length b) → (place b < length b → at_space b ≡ Some (take (place b) b, drop (suc (place b)) b))
        → ◌≡◌ {A = Option (List ℕ × List ℕ)} (elim t [ true ↦ Some ([], b) | false ↦ option_map (λ (p : List ℕ × List ℕ). (x ∷ p.0, p.1)) (at_space b) ]) (Some (take (cond (not t) (1 + place b) 0) (x ∷ b), drop (suc (cond (not t) (1 + place b) 0)) (x ∷ b)))
    go true h' more = refl
    go false h' more =
        let next : suc (place b) ≡ 1 + place b = omega arith in
        ap (option_map (λ (p : List ℕ × List ℕ). (x ∷ p.0, p.1))) (more (omega arith)) ∙ ap (λ j. Some (take j (x ∷ b), drop (suc j) (x ∷ b))) next

space_none : (b : List ℕ) → length b ≤ place b → at_space b ≡ None
space_none [] h = refl
space_none (x ∷ b) h = go (nat_eq x 32) h (space_none b)
  where
    go : (t : Bool) → suc (length b) ≤ cond (not t) (1 + place b) 0 → (length b ≤ place b → at_space b ≡ None)
        → ◌≡◌ {A = Option (List ℕ × List ℕ)} (elim t [ true ↦ Some ([], b) | false ↦ option_map (λ (p : List ℕ × List ℕ). (x ∷ p.0, p.1)) (at_space b) ]) None
    go true h' more = absurd (omega arith)
    go false h' more = ap (option_map (λ (p : List ℕ × List ℕ). (x ∷ p.0, p.1))) (more (omega arith))

pub space_found : (b : List ℕ) (k : ℕ) → position (λ x. nat_eq x 32) b ≡ Some k → at_space b ≡ Some (take k b, drop (k + 1) b)
space_found b k e = go (nat_lt (place b) (length b)) refl e
  where
    go : (t : Bool) → nat_lt (place b) (length b) ≡ t → cond t (Some (place b)) None ≡ Some k → at_space b ≡ Some (take k b, drop (k + 1) b)
    go false low e' = absurd (cc)
    go true low e' =
        let same : place b ≡ k = cc e' in
        let next : suc k ≡ k + 1 = omega arith in
        space_at b (ltb-true (place b) (length b) low) ∙ ap (λ j. Some (take j b, drop (suc j) b)) same ∙ ap (λ j. Some (take k b, drop j b)) next

pub space_missing : (b : List ℕ) → position (λ x. nat_eq x 32) b ≡ None → at_space b ≡ None
space_missing b e = go (nat_lt (place b) (length b)) refl e
  where
    go : (t : Bool) → nat_lt (place b) (length b) ≡ t → ◌≡◌ {A = Option ℕ} (cond t (Some (place b)) None) None → at_space b ≡ None
    go true low e' = absurd (cc)
    go false low e' = space_none b (ltb-false (place b) (length b) low)

-- what does not stand at the front
pub none_there : (r : Option (Bor (List ℕ))) (w : Option (List ℕ)) → ((x : Bor (List ℕ)) → r ≡ Some x → ⊥) → option_map (λ (rest : Bor (List ℕ)). rest.now) r ≡ w → w ≡ None
none_there None w h e = sym e
none_there (Some x) w h e = absurd (h x refl)

-- the version's digit at the front of a header, and a space
pub header_by : (b : List ℕ) (d w : ℕ) → 2 ≤ length b → get_or b 0 0 ≡ d → get_or b 1 0 ≡ 32 → IsTrue (nat_eq d 49 || nat_eq d 50) → d - 48 ≡ w → header_rest w (drop 2 b) ≡ header_tail b
header_by [] d w long first second is number = absurd (omega arith)
header_by (v ∷ []) d w long first second is number = absurd (omega arith)
header_by (v ∷ s ∷ b) d w long first second is number =
    subst (λ x. header_rest w b ≡ header_tail (x ∷ s ∷ b)) (sym first)
    (subst (λ y. header_rest w b ≡ header_tail (d ∷ y ∷ b)) (sym second)
    (ap (λ y. header_rest y b) (sym number) ∙ sym (ap (λ a. elim a [ true ↦ header_rest (d - 48) b | false ↦ None ]) is)))
