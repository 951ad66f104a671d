-- What was read of the input so far, a read more.
use Rattle.std.proofs.Common.{◌≡◌, ℕ, ◌+◌, ◌≤◌, List, ◌++◌, length, take, Option, ◌∙◌, ap, arith}
use Rattle.std.specs.Io.KnownBytes.{Consumes}
use Rattle.std.proofs.KnownBytes.{Consumes-trans}
use Rattle.std.proofs.lemmas.List.{length-append, length-take}

pub asked_more : (a b c : Option (List ℕ)) (bytes old items buf : List ℕ) (n limit : ℕ) → Consumes a b bytes → items ≡ old ++ bytes → Consumes b c (take n buf) → length items + n ≤ limit
    → (all : List ℕ) × Consumes a c all × (length old + length all ≤ limit)
asked_more a b c bytes old items buf n limit p is q few =
    let held = ap length is ∙ length-append old bytes in
    let long = length-append bytes (take n buf) in
    let cut = length-take {A = ℕ} n buf in
    (bytes ++ take n buf, Consumes-trans a b c bytes (take n buf) p q, omega (arith, held, long, cut, few))
