-- A quotient by a number of rows, by a multiplication: the reciprocals are exact enough for the points of a board.
use Rattle.go_points.proofs.Common.{◌≡◌, ℕ, ◌+◌, ◌-◌, ◌*◌, ◌/◌, ◌%◌, ◌^◌, ◌<◌, ◌≤◌, Bool, true, ◌&&◌, nat_lt, ltb-true, List, [], ◌∷◌, get_or, mul-le-mul, refl, sym, ◌∙◌, ap, arith, list_all, range_with_len, div-add-mod', mod_below, div-mul-add, div_below, MAX_SIZE}
use Rattle.go_points.proofs.Lists.{and_left, and_right, range_passes}

-- 2^16 divided by each number of rows, rounded up
abbrev pub reciprocals : List ℕ
reciprocals = 0 ∷ 65536 ∷ 32768 ∷ 21846 ∷ 16384 ∷ 13108 ∷ 10923 ∷ 9363 ∷ 8192 ∷ 7282 ∷ 6554 ∷ 5958 ∷ 5462 ∷ 5042 ∷ 4682 ∷ 4370 ∷ 4096 ∷ 3856 ∷ 3641 ∷ 3450 ∷ 3277 ∷ 3121 ∷ 2979 ∷ 2850 ∷ 2731 ∷ 2622 ∷ []

-- each times its rows is 2^16, or a little more
nearly : ℕ → Bool
nearly n = nat_lt 65535 (n * get_or reciprocals n 0) && nat_lt (n * get_or reciprocals n 0) (65536 + n)

all_nearly : list_all nearly (range_with_len 1 MAX_SIZE) ≡ true
unfolding nearly
all_nearly = refl

quotient : (n r p : ℕ) → 1 ≤ n → n ≤ MAX_SIZE → p < n * n → 65535 < n * r → n * r < 65536 + n → p * r / 65536 ≡ p / n
quotient n r p least most low above below =
    let q = p / n in
    let k = p % n in
    let e = n * r - 65536 in
    let whole : q * n + k ≡ p = div-add-mod' p n in
    let column : k < n = mod_below p n (omega (arith, least)) in
    let row : q < n = div_below p n n (omega (arith, least)) low in
    let sum : n * r ≡ 65536 + e = omega (arith, above) in
    let rest : (k + 1) * r ≤ n * r = mul-le-mul (omega (arith, column)) (omega arith) in
    let row_low : q ≤ MAX_SIZE - 1 = omega (arith, row, most) in
    let over_low : e ≤ MAX_SIZE - 1 = omega (arith, below, most, sum) in
    let over : q * e ≤ (MAX_SIZE - 1) * (MAX_SIZE - 1) = mul-le-mul row_low over_low in
    let wide : n * r ≤ MAX_SIZE * r = mul-le-mul most (omega arith) in
    let rows : q * (n * r) ≡ q * (65536 + e) = ap (λ x. q * x) sum in
    let product : p * r ≡ q * 65536 + (q * e + k * r) = sym (ap (λ x. x * r) whole) ∙ omega (arith, rows) in
    let small : q * e + k * r < 65536 = omega (arith, rest, over, wide, above, below, most, sum) in
    ap (λ x. x / 65536) product ∙ div-mul-add q 65536 (q * e + k * r) small

pub row_is : (n p : ℕ) → 1 ≤ n → n ≤ MAX_SIZE → p < n * n → p * get_or reciprocals n 0 / 65536 ≡ p / n
unfolding nearly
row_is n p least most low =
    let near = range_passes nearly 1 MAX_SIZE n least (omega (arith, most)) all_nearly in
    quotient n (get_or reciprocals n 0) p least most low
    (ltb-true 65535 (n * get_or reciprocals n 0) (and_left _ _ near))
    (ltb-true (n * get_or reciprocals n 0) (65536 + n) (and_right (nat_lt 65535 (n * get_or reciprocals n 0)) _ near))

-- the product is far below 2^64
pub row_fits : (n p : ℕ) → 1 ≤ n → n ≤ MAX_SIZE → p < n * n → p * get_or reciprocals n 0 < 2 ^ 64
unfolding nearly
row_fits n p least most low =
    let r = get_or reciprocals n 0 in
    let near = range_passes nearly 1 MAX_SIZE n least (omega (arith, most)) all_nearly in
    let below : n * r < 65536 + n = ltb-true (n * r) (65536 + n) (and_right (nat_lt 65535 (n * r)) _ near) in
    let once : 1 * r ≤ n * r = mul-le-mul least (omega arith) in
    let few : n * n ≤ MAX_SIZE * MAX_SIZE = mul-le-mul most most in
    let factor : p ≤ MAX_SIZE * MAX_SIZE = omega (arith, low, few) in
    let word : r ≤ 65536 + MAX_SIZE = omega (arith, below, once, most) in
    let product : p * r ≤ (MAX_SIZE * MAX_SIZE) * (65536 + MAX_SIZE) = mul-le-mul factor word in
    omega (arith, product)
