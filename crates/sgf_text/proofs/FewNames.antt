-- The place of a name among the first few properties, or after them.
use Rattle.sgf_text.proofs.Common.{◌≡◌, ℕ, zero, suc, ◌+◌, ◌<◌, ◌≤◌, inl, inr, List, [], ◌∷◌, ◌++◌, length, length-append, sym, ap, ◌∙◌, subst, refl, arith, Bool, true, false, cond, Option, Some, None, option_map, position, BTreeMap, Updates, bytes_order, position_from, bytes_eq, position_from-zero, Property, is_named, ArePlaces, names_of}
use Rattle.std.proofs.Common.{◌⊎◌}
use Rattle.std.specs.Prelude.{take, drop, set, get_or, ◌-◌}
use Rattle.std.proofs.lemmas.Bool.{cases_lt}
use Rattle.std.proofs.lemmas.List.{drop-append-le, length-drop, drop_all, drop-map}
use Rattle.sgf_text.proofs.AddedLemmas.{property, names_position, names_set}
use Rattle.sgf_text.proofs.Places.{places_more, names_pushed, names_length}

-- where none of the first n passes, the search goes on behind them
behind : (test : Property → Bool) (n : ℕ) (ps : List Property) (k : ℕ) → position_from test k (take n ps) ≡ None → position_from test k ps ≡ position_from test (n + k) (drop n ps)
behind test zero ps k e = ap (λ m. position_from test m ps) (omega arith)
behind test (suc n) [] k e = refl
behind test (suc n) (p ∷ ps) k e = go (test p) refl (behind test n ps (k + 1)) e
  where
    go : (b : Bool) → test p ≡ b
        → (position_from test (k + 1) (take n ps) ≡ None → position_from test (k + 1) ps ≡ position_from test (n + (k + 1)) (drop n ps))
        → cond b (Some k) (position_from test (k + 1) (take n ps)) ≡ None
        → cond (test p) (Some k) (position_from test (k + 1) ps) ≡ position_from test (suc n + k) (drop n ps)
    go true f ih h = absurd (let x = h in cc)
    go false f ih h = rw f (ih h ∙ ap (λ m. position_from test m (drop n ps)) (omega arith))

-- a count that begins later ends later
later : (test : Property → Bool) (ps : List Property) (m k : ℕ) → position_from test (m + k) ps ≡ option_map (λ j. m + j) (position_from test k ps)
later test [] m k = refl
later test (p ∷ ps) m k = go (test p) refl (later test ps m (k + 1))
  where
    go : (b : Bool) → test p ≡ b → position_from test (m + (k + 1)) ps ≡ option_map (λ j. m + j) (position_from test (k + 1) ps)
        → cond (test p) (Some (m + k)) (position_from test (m + k + 1) ps) ≡ option_map (λ j. m + j) (cond (test p) (Some k) (position_from test (k + 1) ps))
    go true f ih = rw f refl
    go false f ih = rw f (ap (λ j. position_from test j ps) (omega arith) ∙ ih)

-- The place of a name that is none of the first n is n more than its place among the others.
pub place_behind : (n : ℕ) (ps : List Property) (name : List ℕ) → position (is_named name) (take n ps) ≡ None
    → position (is_named name) ps ≡ option_map (λ j. n + j) (position (bytes_eq name) (names_of (drop n ps)))
place_behind n ps name e =
    position_from-zero (is_named name) ps
    ∙ behind (is_named name) n ps 0 (sym (position_from-zero (is_named name) (take n ps)) ∙ e)
    ∙ later (is_named name) (drop n ps) n 0
    ∙ ap (option_map (λ j. n + j)) (sym (position_from-zero (is_named name) (drop n ps)) ∙ sym (names_position (drop n ps) name))

-- a name that is nowhere is not behind the first n
none_behind : (test : Property → Bool) (n : ℕ) (ps : List Property) (k : ℕ) → position_from test k ps ≡ None → position_from test (n + k) (drop n ps) ≡ None
none_behind test zero ps k e = ap (λ m. position_from test m ps) (omega arith) ∙ e
none_behind test (suc n) [] k e = refl
none_behind test (suc n) (p ∷ ps) k e = go (test p) (none_behind test n ps (k + 1)) e
  where
    go : (b : Bool) → (position_from test (k + 1) ps ≡ None → position_from test (n + (k + 1)) (drop n ps) ≡ None)
        → cond b (Some k) (position_from test (k + 1) ps) ≡ None
        → position_from test (suc n + k) (drop n ps) ≡ None
    go true ih h = absurd (let x = h in cc)
    go false ih h = ap (λ m. position_from test m (drop n ps)) (omega arith) ∙ ih h

unmapped : (n : ℕ) (r : Option ℕ) → option_map (λ j. n + j) r ≡ None → r ≡ None
unmapped n None e = refl
unmapped n (Some x) e = absurd (let h = e in cc)

pub name_not_behind : (n : ℕ) (ps : List Property) (name : List ℕ) → position (is_named name) ps ≡ None → position (bytes_eq name) (names_of (drop n ps)) ≡ None
name_not_behind n ps name e =
    names_position (drop n ps) name ∙ position_from-zero (is_named name) (drop n ps)
    ∙ unmapped n _ (sym (later (is_named name) (drop n ps) n 0) ∙ none_behind (is_named name) n ps 0 (sym (position_from-zero (is_named name) ps) ∙ e))

-- Other values at a place leave the names behind the first n.
pub names_set_behind : (n : ℕ) (ps : List Property) (i : ℕ) (d : Property) (new : List (List ℕ)) → d ≡ get_or ps i d
    → names_of (drop n (set ps i (property d.ident new))) ≡ names_of (drop n ps)
names_set_behind n ps i d new e =
    sym (drop-map (λ (p : Property). p.ident) n (set ps i (property d.ident new)))
    ∙ ap (drop n) (names_set ps i d new e)
    ∙ drop-map (λ (p : Property). p.ident) n ps

-- The map has the places behind the first n where one property more is noted.
pub places_noted : (m o : BTreeMap (List ℕ) ℕ) (n : ℕ) (ps : List Property) (p : Property) → ArePlaces m (names_of (drop n ps)) → position (is_named p.ident) ps ≡ None
    → (length ps < n → o ≡ m) → (n ≤ length ps → Updates bytes_order m o p.ident (Some (length ps - n))) → ArePlaces o (names_of (drop n (ps ++ p ∷ [])))
places_noted m o n ps p are none few more = at (cases_lt (length ps) n)
  where
    at : (length ps < n) ⊎ (n ≤ length ps) → ArePlaces o (names_of (drop n (ps ++ p ∷ [])))
    at (inl h) =
        let short : drop n ps ≡ drop n (ps ++ p ∷ []) = drop_all n ps (omega (arith, h)) ∙ sym (drop_all n (ps ++ p ∷ []) (let l = length-append ps (p ∷ []) in omega (arith, h, l))) in
        subst (λ x. ArePlaces x (names_of (drop n (ps ++ p ∷ [])))) (sym (few h)) (subst (λ xs. ArePlaces m (names_of xs)) short are)
    at (inr h) =
        subst (ArePlaces o) (sym (ap names_of (drop-append-le n ps (p ∷ []) h) ∙ names_pushed (drop n ps) p))
        (places_more m o (names_of (drop n ps)) p.ident are (name_not_behind n ps p.ident none)
        (subst (λ k. Updates bytes_order m o p.ident (Some k)) (sym (names_length (drop n ps) ∙ length-drop n ps)) (more h)))
