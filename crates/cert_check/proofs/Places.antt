-- Numbers are found by their places, where one more is put in, and where there is room for more places.
use Rattle.cert_check.proofs.Common.{◌≡◌, ℕ, zero, suc, ◌<◌, ◌≤◌, Bool, true, false, nat_eq, List, [], ◌∷◌, ◌++◌, length, get_or, set, None, Some, refl, sym, ap, ◌∙◌, subst, arith, eqb-true, eq-eqb, slice_get, Contains, All-push, get_or_from_slice_get, ArePlaced}
use Rattle.std.proofs.Common.{◌≢◌}
use Rattle.std.proofs.lemmas.List.Elements.{All-contains, All-weaker}
use Rattle.std.proofs.lemmas.Option.{slice_get_past}
use Rattle.cert_check.specs.Private.Places.{IsPlaced, KeepsAll}

get_more : (xs ys : List ℕ) (i v : ℕ) → slice_get xs i ≡ Some v → slice_get (xs ++ ys) i ≡ Some v
get_more [] ys i v e = absurd (cc)
get_more (x ∷ xs) ys zero v e = e
get_more (x ∷ xs) ys (suc i) v e = get_more xs ys i v e

get_last : (xs : List ℕ) (x : ℕ) → slice_get (xs ++ x ∷ []) (length xs) ≡ Some x
get_last [] x = refl
get_last (y ∷ xs) x = get_last xs x

get_other : (xs : List ℕ) (j w i v : ℕ) → i ≢ j → slice_get xs i ≡ Some v → slice_get (set xs j w) i ≡ Some v
get_other [] j w i v ne e = absurd (cc)
get_other (x ∷ xs) zero w zero v ne e = absurd (ne refl)
get_other (x ∷ xs) zero w (suc i) v ne e = e
get_other (x ∷ xs) (suc j) w zero v ne e = e
get_other (x ∷ xs) (suc j) w (suc i) v ne e = get_other xs j w i v (λ s. ne (ap suc s)) e

get_same : (xs : List ℕ) (j w : ℕ) → j < length xs → slice_get (set xs j w) j ≡ Some w
get_same [] j w low = absurd (omega (arith, low))
get_same (x ∷ xs) zero w low = refl
get_same (x ∷ xs) (suc j) w low = get_same xs j w (omega (arith, low))

pub still_placed : (ns ps ps' : List ℕ) → KeepsAll ps ps' → ArePlaced ns ps → ArePlaced ns ps'
still_placed ns ps ps' keeps h = All-weaker (IsPlaced ns ps) (IsPlaced ns ps') (λ n w. (w.0, keeps n w.0 w.1, w.2)) ns h

pub one_placed_more : (ns ps : List ℕ) (n : ℕ) → n < length ps → ArePlaced ns ps → ArePlaced (ns ++ n ∷ []) (set ps n (length ns))
one_placed_more ns ps n low h =
    All-push (IsPlaced (ns ++ n ∷ []) (set ps n (length ns))) ns n (All-weaker (IsPlaced ns ps) (IsPlaced (ns ++ n ∷ []) (set ps n (length ns))) (λ m w. at m w (nat_eq m n) refl) ns h) own
  where
    own : IsPlaced (ns ++ n ∷ []) (set ps n (length ns)) n
    own = (length ns, get_same ps n (length ns) low, get_last ns n)

    at : (m : ℕ) → IsPlaced ns ps m → (b : Bool) → nat_eq m n ≡ b → IsPlaced (ns ++ n ∷ []) (set ps n (length ns)) m
    at m w true e = subst (IsPlaced (ns ++ n ∷ []) (set ps n (length ns))) (sym (eqb-true m n e)) own
    at m w false e = (w.0, get_other ps n (length ns) m w.0 (λ s. absurd (let t : nat_eq m n ≡ true = eq-eqb m n s in cc)) w.1, get_more ns (n ∷ []) w.0 m w.2)

-- a number that is held has a place, and stands there
module _ (ns ps : List ℕ) (n : ℕ) (h : ArePlaced ns ps) (held : Contains ns n) where
  own_place : IsPlaced ns ps n
  own_place = All-contains (IsPlaced ns ps) ns n h held

  pub has_place : length ps ≤ n → ⊥
  has_place past = absurd (let both : None ≡ Some own_place.0 = sym (slice_get_past ps n past) ∙ own_place.1 in cc)

  pub stands_there : (k : ℕ) → k ≡ get_or ps n k → slice_get ns k ≡ Some n
  stands_there k is = subst (λ i. slice_get ns i ≡ Some n) same own_place.2
    where
      same : own_place.0 ≡ k
      same = sym (get_or_from_slice_get ps n own_place.0 k own_place.1) ∙ sym is

  pub stands_within : (k : ℕ) → k ≡ get_or ps n k → length ns ≤ k → ⊥
  stands_within k is past = absurd (let both : None ≡ Some n = sym (slice_get_past ns k past) ∙ stands_there k is in cc)

  pub stands_itself : (k m : ℕ) → k ≡ get_or ps n k → m ≡ get_or ns k m → m ≡ n
  stands_itself k m is found = found ∙ get_or_from_slice_get ns k n m (stands_there k is)
