-- What a set holds after one place is put in or taken out.
use Rattle.go_points.proofs.Common.{◌≡◌, Bool, true, false, cond, not, ◌&&◌, ◌||◌, List, [], ◌∷◌, refl, sym, ◌∙◌, ap, ap₂, Place, same_place, is_before, holds_place, with_place, without_place, same_place_decides}

or_twice : (a b : Bool) → (a || b) ≡ (a || (a || b))
or_twice true b = refl
or_twice false b = refl

pub or_swap : (a b c : Bool) → (a || (b || c)) ≡ (b || (a || c))
or_swap true true c = refl
or_swap true false c = refl
or_swap false true c = refl
or_swap false false c = refl

pub sets_gain : (ps : List Place) (p q : Place) → holds_place (with_place ps p) q ≡ (same_place q p || holds_place ps q)
sets_gain [] p q = refl
sets_gain (r ∷ rs) p q = go (same_place p r) (is_before p r) refl (sets_gain rs p q)
  where
    go : (a b : Bool) → same_place p r ≡ a → holds_place (with_place rs p) q ≡ (same_place q p || holds_place rs q)
        → holds_place (cond a (r ∷ rs) (cond b (p ∷ r ∷ rs) (r ∷ with_place rs p))) q ≡ (same_place q p || (same_place q r || holds_place rs q))
    go true b e rest = or_twice (same_place q r) (holds_place rs q) ∙ ap (λ s. same_place q s || (same_place q r || holds_place rs q)) (sym ((same_place_decides p r).0 e))
    go false true e rest = refl
    go false false e rest = ap (λ h. same_place q r || h) rest ∙ or_swap (same_place q r) (same_place q p) (holds_place rs q)

not_and_or : (a b : Bool) → (not a && b) ≡ (not a && (a || b))
not_and_or true b = refl
not_and_or false b = refl

pub sets_lose : (ps : List Place) (p q : Place) → holds_place (without_place ps p) q ≡ (not (same_place q p) && holds_place ps q)
sets_lose [] p q = none (same_place q p)
  where
    none : (a : Bool) → false ≡ (not a && false)
    none true = refl
    none false = refl
sets_lose (r ∷ rs) p q = go (same_place p r) refl (same_place q p) refl (sets_lose rs p q)
  where
    go : (a : Bool) → same_place p r ≡ a → (b : Bool) → same_place q p ≡ b → holds_place (without_place rs p) q ≡ (not (same_place q p) && holds_place rs q)
        → holds_place (cond (not a) (r ∷ without_place rs p) (without_place rs p)) q ≡ (not (same_place q p) && (same_place q r || holds_place rs q))
    go true e b f rest = rest ∙ not_and_or (same_place q p) (holds_place rs q) ∙ ap (λ s. not (same_place q p) && (same_place q s || holds_place rs q)) ((same_place_decides p r).0 e)
    go false e true f rest = ap₂ (λ x y. x || y) (ap (λ s. same_place s r) ((same_place_decides q p).0 f) ∙ e) (rest ∙ ap (λ b. not b && holds_place rs q) f) ∙ ap (λ b. not b && (same_place q r || holds_place rs q)) (sym f)
    go false e false f rest = ap (λ h. same_place q r || h) (rest ∙ ap (λ b. not b && holds_place rs q) f) ∙ ap (λ b. not b && (same_place q r || holds_place rs q)) (sym f)
