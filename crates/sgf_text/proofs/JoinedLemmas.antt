-- Properties joined one after another, as a reader does it.
use Rattle.sgf_text.proofs.Common.{◌≡◌, ℕ, List, [], ◌∷◌, ◌++◌, sym, ap, ◌∙◌, refl, rules, arith, true, false, bytes_eq, append_assoc, append-nil, nat_tests, Property, is_named, values_at, without, joined, added}
use Rattle.sgf_text.proofs.AddedLemmas.{property, added_here, added_later, same_name, name_itself, flipped}

-- the properties that are there, with further ones added in turn
abbrev pub joined_onto : List Property → List Property → List Property
joined_onto old [] = old
joined_onto old (p ∷ ps) = joined_onto (added old p.ident p.values) ps

-- what is joined later goes to the properties that are there, and the rest after them
abbrev pub laid : List Property → List Property → List Property
laid [] later = later
laid (q ∷ old) later = property q.ident (q.values ++ values_at q.ident later) ∷ laid old (without q.ident later)

abbrev pub later_of : List ℕ → List (List ℕ) → List Property → List Property
later_of name values later = property name (values ++ values_at name later) ∷ without name later

-- ---- names that are taken out

values_on : (n : List ℕ) (p : Property) (ps : List Property) → is_named n p ≡ true → values_at n (p ∷ ps) ≡ p.values
values_on n p ps e = rw e refl

values_off : (n : List ℕ) (p : Property) (ps : List Property) → is_named n p ≡ false → values_at n (p ∷ ps) ≡ values_at n ps
values_off n p ps e = rw e refl

without_on : (n : List ℕ) (p : Property) (ps : List Property) → is_named n p ≡ true → without n (p ∷ ps) ≡ without n ps
without_on n p ps e = rw e refl

without_off : (n : List ℕ) (p : Property) (ps : List Property) → is_named n p ≡ false → without n (p ∷ ps) ≡ p ∷ without n ps
without_off n p ps e = rw e refl

without_twice : (n : List ℕ) (ps : List Property) → without n (without n ps) ≡ without n ps
without_twice n [] = refl
without_twice n (p ∷ ps) = let i0 = without_twice n ps in search rules

without_both : (m n : List ℕ) (ps : List Property) → without m (without n ps) ≡ without n (without m ps)
without_both m n [] = refl
without_both m n (p ∷ ps) = let i0 = without_both m n ps in search rules

-- another name's values stay
values_other : (m n : List ℕ) (ps : List Property) → bytes_eq m n ≡ false → values_at m (without n ps) ≡ values_at m ps
values_other m n [] h = refl
values_other m n (p ∷ ps) h = let i0 = values_other m n ps h in search rules

-- ---- one property more

at_same : (q : Property) (old : List Property) (values : List (List ℕ)) (later : List Property) → laid (added (q ∷ old) q.ident values) later ≡ laid (q ∷ old) (later_of q.ident values later)
at_same q old values later = grind (arith, nat_tests, added_here, name_itself, property, append_assoc, values_on, without_on, without_twice)

laid_none : (old : List Property) → laid old [] ≡ old
laid_none [] = refl
laid_none (q ∷ old) = ap (λ vs. property q.ident vs ∷ laid old []) (append-nil q.values) ∙ ap (λ (t : List Property). q ∷ t) (laid_none old)

laid_added : (old : List Property) (name : List ℕ) (values : List (List ℕ)) (later : List Property) → laid (added old name values) later ≡ laid old (later_of name values later)
laid_added [] name values later = refl
laid_added (q ∷ old) name values later = let i0 = laid_added old name values (without q.ident later) in grind (arith, nat_tests, same_name, at_same, added_later, property, values_off, flipped, values_other, without_both, without_off)

pub joined_onto_is : (ps old : List Property) → joined_onto old ps ≡ laid old (joined ps)
joined_onto_is [] old = sym (laid_none old)
joined_onto_is (p ∷ ps) old = joined_onto_is ps (added old p.ident p.values) ∙ laid_added old p.ident p.values (joined ps)

pub joined_is : (ps : List Property) → joined_onto [] ps ≡ joined ps
joined_is ps = joined_onto_is ps []
