-- What was read of the input so far, a read more.
use Rattle.tsumego_replies.proofs.Common.{◌≡◌, ℕ, ◌+◌, ◌≤◌, true, List, [], ◌∷◌, ◌++◌, length, take, Option, ◌∙◌, ap, subst, arith, length-append, Consumes, is_white, AllWhite}
use Rattle.std.proofs.Common.{get_or}
use Rattle.std.proofs.KnownBytes.{Consumes-trans}
use Rattle.std.proofs.lemmas.List.{length-take}

all_white_more : (white : List ℕ) (x : ℕ) → AllWhite white → is_white x ≡ true → AllWhite (white ++ x ∷ [])
all_white_more [] x all e = (e, tt)
all_white_more (y ∷ white) x all e = (all.0, all_white_more white x all.1 e)

one_byte : (buf : List ℕ) (n : ℕ) → length buf ≡ 1 → n ≡ 1 → take n buf ≡ get_or buf 0 0 ∷ []
one_byte [] n one is = absurd (omega (arith, one))
one_byte (x ∷ []) n one is = ap (λ k. take k (x ∷ [])) is
one_byte (x ∷ y ∷ buf) n one is = absurd (omega (arith, one))

pub white_more : (a b c : Option (List ℕ)) (white buf : List ℕ) (n k : ℕ) → AllWhite white → length white ≡ k → Consumes a b white → Consumes b c (take n buf) → length buf ≡ 1 → n ≡ 1 → is_white (get_or buf 0 0) ≡ true
    → (all : List ℕ) × AllWhite all × (length all ≡ k + 1) × Consumes a c all × (length buf ≡ 1)
white_more a b c white buf n k all count p q one is e =
    let x = get_or buf 0 0 in
    let long = length-append white (x ∷ []) in (
      white ++ x ∷ [],
      all_white_more white x all e,
      omega (arith, long, count),
      Consumes-trans a b c white (x ∷ []) p (subst (Consumes b c) (one_byte buf n one is) q),
      one,
    )
