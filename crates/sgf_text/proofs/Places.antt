-- A map of places, with one name more.
use Rattle.sgf_text.proofs.Common.{◌≡◌, ℕ, suc, ◌+◌, List, [], ◌∷◌, ◌++◌, sym, ap, ◌∙◌, refl, arith, rules, Bool, true, false, cond, Some, None, position, position_from, bytes_eq, BTreeMap, Updates, position_from-zero, bytes_order, Property, ArePlaces, names_of}
use Rattle.std.specs.Prelude.{length}
use Rattle.std.specs.BTreeMap.{get}
use Rattle.std.specs.Cmp.Lexicographic.{texts_ties}
use Rattle.sgf_text.proofs.AddedLemmas.{same_name}

turned : (a b : List ℕ) → bytes_eq a b ≡ bytes_eq b a
turned a b = search rules

here_or_later : (a : Bool) (k : ℕ) (rest : List (List ℕ)) (name : List ℕ) → cond a (Some k) (position_from (bytes_eq name) (k + 1) rest) ≡ None → (a ≡ false) × (position_from (bytes_eq name) (k + 1) rest ≡ None)
here_or_later a k rest name h = search rules

one_more : (names : List (List ℕ)) (name asked : List ℕ) (k : ℕ) → position_from (bytes_eq name) k names ≡ None
    → position_from (bytes_eq asked) k (names ++ name ∷ []) ≡ cond (bytes_eq name asked) (Some (k + length names)) (position_from (bytes_eq asked) k names)
one_more [] name asked k e = ap (λ b. cond b (Some k) None) (turned asked name) ∙ ap (λ j. cond (bytes_eq name asked) (Some j) None) (omega arith)
one_more (x ∷ names) name asked k e =
    let other = here_or_later (bytes_eq name x) k names name e in
    go (bytes_eq asked x) refl other.0 (one_more names name asked (k + 1) other.1)
  where
    go : (b : Bool) → bytes_eq asked x ≡ b → bytes_eq name x ≡ false
        → position_from (bytes_eq asked) (k + 1) (names ++ name ∷ []) ≡ cond (bytes_eq name asked) (Some (k + 1 + length names)) (position_from (bytes_eq asked) (k + 1) names)
        → cond (bytes_eq asked x) (Some k) (position_from (bytes_eq asked) (k + 1) (names ++ name ∷ []))
        ≡ cond (bytes_eq name asked) (Some (k + length (x ∷ names))) (cond (bytes_eq asked x) (Some k) (position_from (bytes_eq asked) (k + 1) names))
    go true b other ih = let apart : bytes_eq name asked ≡ false = ap (bytes_eq name) (same_name asked x b) ∙ other in rw (b, apart) refl
    go false b other ih = rw b (ih ∙ ap (λ j. cond (bytes_eq name asked) (Some j) (position_from (bytes_eq asked) (k + 1) names)) (omega arith))

pub places_more : (m n : BTreeMap (List ℕ) ℕ) (names : List (List ℕ)) (name : List ℕ) → ArePlaces m names → position (bytes_eq name) names ≡ None
    → Updates bytes_order m n name (Some (length names)) → ArePlaces n (names ++ name ∷ [])
places_more m n names name are none updates asked =
    let found : position_from (bytes_eq asked) 0 (names ++ name ∷ []) ≡ cond (bytes_eq name asked) (Some (length names)) (position_from (bytes_eq asked) 0 names) =
    one_more names name asked 0 (sym (position_from-zero (bytes_eq name) names) ∙ none) ∙ ap (λ j. cond (bytes_eq name asked) (Some j) (position_from (bytes_eq asked) 0 names)) (omega arith) in
    let before = are asked ∙ position_from-zero (bytes_eq asked) names in
    updates.0 asked
    ∙ ap (λ b. cond b (Some (length names)) (get bytes_order m asked)) (sym (texts_ties name asked))
    ∙ ap (λ r. cond (bytes_eq name asked) (Some (length names)) r) before
    ∙ sym found ∙ sym (position_from-zero (bytes_eq asked) (names ++ name ∷ []))

pub names_pushed : (ps : List Property) (p : Property) → names_of (ps ++ p ∷ []) ≡ names_of ps ++ p.ident ∷ []
names_pushed [] p = refl
names_pushed (q ∷ ps) p = ap (λ names. q.ident ∷ names) (names_pushed ps p)

pub names_length : (ps : List Property) → length (names_of ps) ≡ length ps
names_length [] = refl
names_length (p ∷ ps) = ap suc (names_length ps)
