-- Values added to a node under a name, and what joins properties that stand twice.
use Rattle.sgf_text.proofs.Common.{◌≡◌, ℕ, zero, suc, ◌+◌, List, [], ◌∷◌, ◌++◌, get_or, sym, ap, ◌∙◌, subst, refl, arith, rules, Bool, true, false, ◌||◌, cond, Some, None, position, Result, list_all, list_any, bytes_eq, position_from, position_from-zero, and_from, and_parts, not-true, nat_tests, Property, is_value, is_ident, is_property, is_named, are_distinct, is_node, added, names_of}
use Rattle.std.proofs.Common.{set}
use Rattle.std.specs.Prelude.{OnOk}
use Rattle.std.proofs.lemmas.Slice.Eq.{bytes_eq-Decides}

abbrev pub property : List ℕ → List (List ℕ) → Property
property name values = record { ident = name; values = values }

pub added_here : (p : Property) (ps : List Property) (name : List ℕ) (values : List (List ℕ)) → is_named name p ≡ true → added (p ∷ ps) name values ≡ property p.ident (p.values ++ values) ∷ ps
added_here p ps name values e = rw (e, added) refl

pub added_later : (p : Property) (ps : List Property) (name : List ℕ) (values : List (List ℕ)) → is_named name p ≡ false → added (p ∷ ps) name values ≡ p ∷ added ps name values
added_later p ps name values e = rw (e, added) refl

pub on_ok_map : {T E : Type 0} (r : Result T E) (P Q : Type 0) → (P → Q) → OnOk r P → OnOk r Q
on_ok_map r P Q h g = search rules

-- ---- names

pub same_name : (a b : List ℕ) → bytes_eq a b ≡ true → a ≡ b
same_name a b h = (bytes_eq-Decides a b).0 h

pub name_itself : (a : List ℕ) → bytes_eq a a ≡ true
name_itself a = (bytes_eq-Decides a a).1 refl

pub flipped : (a b : List ℕ) → bytes_eq a b ≡ false → bytes_eq b a ≡ false
flipped a b h = search rules

-- ---- as the code finds the place

position_here : (p : Property) (ps : List Property) (name : List ℕ) (k : ℕ) → is_named name p ≡ true → position_from (is_named name) k (p ∷ ps) ≡ Some k
position_here p ps name k e = rw (e, position_from) refl

position_later : (p : Property) (ps : List Property) (name : List ℕ) (k : ℕ) → is_named name p ≡ false → position_from (is_named name) k (p ∷ ps) ≡ position_from (is_named name) (suc k) ps
position_later p ps name k e = rw (e, position_from) (ap (λ n. position_from (is_named name) n ps) (omega arith))

none_from : (ps : List Property) (name : List ℕ) (values : List (List ℕ)) (k : ℕ) → position_from (is_named name) k ps ≡ None → added ps name values ≡ ps ++ property name values ∷ []
none_from [] name values k e = refl
none_from (p ∷ ps) name values k e = go (is_named name p) refl (λ f. none_from ps name values (suc k) (sym (position_later p ps name k f) ∙ e))
  where
    go : (b : Bool) → is_named name p ≡ b → (is_named name p ≡ false → added ps name values ≡ ps ++ property name values ∷ []) → added (p ∷ ps) name values ≡ (p ∷ ps) ++ property name values ∷ []
    go true f ih = absurd (let h : Some k ≡ None = sym (position_here p ps name k f) ∙ e in cc)
    go false f ih = added_later p ps name values f ∙ ap (λ t. p ∷ t) (ih f)

pub added_none : (ps : List Property) (name : List ℕ) (values : List (List ℕ)) → position (is_named name) ps ≡ None → added ps name values ≡ ps ++ property name values ∷ []
added_none ps name values e = none_from ps name values 0 (sym (position_from-zero (is_named name) ps) ∙ e)

abbrev pub Put : List ℕ → List (List ℕ) → Property → List Property → ℕ → Type 0
Put name values d qs k = added qs name values ≡ set qs k (property (get_or qs k d).ident ((get_or qs k d).values ++ values))

some_from : (ps : List Property) (name : List ℕ) (values : List (List ℕ)) (d : Property) (k j : ℕ) → position_from (is_named name) k ps ≡ Some j → (i : ℕ) × (j ≡ k + i) × Put name values d ps i
some_from [] name values d k j e = absurd cc
some_from (p ∷ ps) name values d k j e = go (is_named name p) refl (λ f. some_from ps name values d (suc k) j (sym (position_later p ps name k f) ∙ e))
  where
    go : (b : Bool) → is_named name p ≡ b → (is_named name p ≡ false → (i : ℕ) × (j ≡ suc k + i) × Put name values d ps i) → (i : ℕ) × (j ≡ k + i) × Put name values d (p ∷ ps) i
    go true f ih = (0, (let h : Some k ≡ Some j = sym (position_here p ps name k f) ∙ e in let x : k ≡ j = cc in omega arith), added_here p ps name values f)
    go false f ih = let r = ih f in (suc r.0, (let x = r.1 in omega arith), added_later p ps name values f ∙ ap (λ t. p ∷ t) r.2)

pub added_at : (ps : List Property) (name : List ℕ) (values : List (List ℕ)) (i : ℕ) (d : Property) → position (is_named name) ps ≡ Some i → Put name values d ps i
added_at ps name values i d e = let r = some_from ps name values d 0 i (sym (position_from-zero (is_named name) ps) ∙ e) in subst (Put name values d ps) (let x = r.1 in omega arith) r.2

-- the values at the place were put at the end of those that are there
pub appended_at : (now ps : List Property) (name : List ℕ) (values new : List (List ℕ)) (i : ℕ) (d : Property) → ps ≡ now → position (is_named name) ps ≡ Some i → d ≡ get_or ps i d → new ≡ d.values ++ values → set ps i (property d.ident new) ≡ added now name values
appended_at now ps name values new i d h g e f = grind (arith, nat_tests, added_at)

-- ---- as the code keeps the names

names_from : (ps : List Property) (name : List ℕ) (k : ℕ) → position_from (bytes_eq name) k (names_of ps) ≡ position_from (is_named name) k ps
names_from [] name k = refl
names_from (p ∷ ps) name k = ap (cond (is_named name p) (Some k)) (names_from ps name (k + 1))

pub names_position : (ps : List Property) (name : List ℕ) → position (bytes_eq name) (names_of ps) ≡ position (is_named name) ps
names_position ps name = position_from-zero (bytes_eq name) (names_of ps) ∙ names_from ps name 0 ∙ sym (position_from-zero (is_named name) ps)

pub names_set : (ps : List Property) (i : ℕ) (d : Property) (new : List (List ℕ)) → d ≡ get_or ps i d → names_of (set ps i (property d.ident new)) ≡ names_of ps
names_set [] i d new e = refl
names_set (p ∷ ps) zero d new e = ap (λ (q : Property). q.ident ∷ names_of ps) e
names_set (p ∷ ps) (suc i) d new e = ap (λ (ns : List (List ℕ)). p.ident ∷ ns) (names_set ps i d new e)

-- ---- a good node stays one

all_values : (xs ys : List (List ℕ)) → list_all is_value xs ≡ true → list_all is_value ys ≡ true → list_all is_value (xs ++ ys) ≡ true
all_values [] ys h g = g
all_values (x ∷ xs) ys h g = let b = and_parts (is_value x) (list_all is_value xs) h in and_from (is_value x) (list_all is_value (xs ++ ys)) b.0 (all_values xs ys b.1 g)

one_good : (name : List ℕ) (values : List (List ℕ)) → is_ident name ≡ true → list_all is_value values ≡ true → (values ≡ [] → ⊥) → is_property (property name values) ≡ true
one_good name values h g e = search rules

more_good : (name : List ℕ) (values more : List (List ℕ)) → is_property (property name values) ≡ true → list_all is_value more ≡ true → is_property (property name (values ++ more)) ≡ true
more_good name values more h g = grind (arith, nat_tests, and_parts, and_from, all_values)

any_added : (ps : List Property) (m name : List ℕ) (values : List (List ℕ)) → list_any (is_named m) ps ≡ false → bytes_eq m name ≡ false → list_any (is_named m) (added ps name values) ≡ false
any_added [] m name values h g = rw g refl
any_added (p ∷ ps) m name values h g = go (is_named name p) (is_named m p) refl refl h (λ k. any_added ps m name values k g)
  where
    go : (b d : Bool) → is_named name p ≡ b → is_named m p ≡ d → (d || list_any (is_named m) ps) ≡ false
        → (list_any (is_named m) ps ≡ false → list_any (is_named m) (added ps name values) ≡ false) → list_any (is_named m) (added (p ∷ ps) name values) ≡ false
    go b true e f h ih = absurd cc
    go true false e f h ih = rw (added_here p ps name values e) (rw f h)
    go false false e f h ih = rw (added_later p ps name values e) (rw f (ih h))

module _ (name : List ℕ) (values : List (List ℕ)) (i : is_ident name ≡ true) (v : list_all is_value values ≡ true) (n : values ≡ [] → ⊥) where
  all_added : (ps : List Property) → list_all is_property ps ≡ true → list_all is_property (added ps name values) ≡ true
  all_added [] h = and_from (is_property (property name values)) true (one_good name values i v n) refl
  all_added (p ∷ ps) h = let i0 = all_added ps in grind (arith, nat_tests, and_parts, added_here, and_from, more_good, added_later)

  distinct_added : (ps : List Property) → are_distinct ps ≡ true → are_distinct (added ps name values) ≡ true
  distinct_added [] h = refl
  distinct_added (p ∷ ps) h = let i0 = distinct_added ps in grind (arith, nat_tests, and_parts, added_here, and_from, added_later, any_added, not-true, flipped)

  pub added_good : (ps : List Property) → is_node ps ≡ true → is_node (added ps name values) ≡ true
  added_good ps h = grind (arith, nat_tests, and_parts, and_from, all_added, distinct_added)
