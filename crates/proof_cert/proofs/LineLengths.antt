-- No line is longer than the longest line of the widest board.
use Rattle.proof_cert.proofs.Common.{◌≡◌, ℕ, ◌+◌, ◌*◌, ◌<◌, ◌≤◌, ◌⊎◌, inl, inr, true, ◌||◌, nat_eq, nat_le, nat_lt, eqb-true, leb-true, ltb-true, List, ◌++◌, length, Option, Some, None, IsTrue, codes, decimal, refl, ap, arith, length-append, length-decimal-le, MAX_SIZE, Colour, Black, White, Cell, Ply, pass, move, text_of, Line, header_line, lemma_line, had_line, not_line, main_line, won_line, use_line, play_line, all_line, reply_line, end_line, colour_letter, vertex_text, is_spelled_number, line_bytes, is_spelled, line_of, max_line}
use Rattle.std.proofs.Math.Nat.{mul-le-mul}
use Rattle.go_points.specs.declared.TheConstants.{MAX_POINTS}
use Rattle.proof_cert.specs.Lines.{line_fits}
use Rattle.proof_cert.specs.Text.{numbers_spelled}
use Rattle.proof_cert.proofs.Words.{and_first, and_second, length-text_of}
use Rattle.proof_cert.proofs.Texts.{line_of-is}
use Rattle.go_points.proofs.Lists.{or_cases}

-- a number that a line can hold has at most eight digits
small_number : (k : ℕ) → k < 100000000 → length (decimal k) ≤ 8
small_number k low = length-decimal-le 8 k (omega arith) low (omega arith)

pub few_digits : (k : ℕ) → IsTrue (is_spelled_number k) → length (decimal k) ≤ 8
few_digits k h = small_number k (ltb-true k 100000000 (and_second (nat_le 1 k) (nat_lt k 100000000) h))

pub one_letter : (x : Colour) → length (colour_letter x) ≡ 1
one_letter Black = refl
one_letter White = refl

few_letters : (n : ℕ) (t : Ply) → length (vertex_text n t) ≤ 4
few_letters n pass = omega arith
few_letters n (move p) = omega arith

two_versions : (v : ℕ) → IsTrue (nat_eq v 1 || nat_eq v 2) → length (decimal v) ≤ 8
two_versions v h = at (or_cases (nat_eq v 1) (nat_eq v 2) h)
  where
    at : (nat_eq v 1 ≡ true) ⊎ (nat_eq v 2 ≡ true) → length (decimal v) ≤ 8
    at (inl e) = let is : v ≡ 1 = eqb-true v 1 e in small_number v (omega (arith, is))
    at (inr e) = let is : v ≡ 2 = eqb-true v 2 e in small_number v (omega (arith, is))

cells_most : (n : ℕ) (c : List Cell) → n ≤ MAX_SIZE → IsTrue (nat_eq (length c) (n * n)) → length (text_of c) ≤ MAX_POINTS
cells_most n c small h =
    let same : length c ≡ n * n = eqb-true (length c) (n * n) h in
    let long = length-text_of c in
    let square : n * n ≤ MAX_SIZE * MAX_SIZE = mul-le-mul small small in
    omega (arith, same, long, square)

-- two parts, and their lengths
joined : (a b : List ℕ) (k m : ℕ) → length a ≤ k → length b ≤ m → length (a ++ b) ≤ k + m
joined a b k m h h' = let both = length-append a b in omega (arith, both)

pub line_length : (n : ℕ) → n ≤ MAX_SIZE → (l : Line) → IsTrue (is_spelled n (Some l)) → length (line_bytes n l) ≤ max_line
line_length n small (header_line v size x) h =
    let spelled = and_second (line_fits n (header_line v size x)) (numbers_spelled (header_line v size x)) h in
    let version = two_versions v (and_first (nat_eq v 1 || nat_eq v 2) (is_spelled_number size) spelled) in
    let digits = few_digits size (and_second (nat_eq v 1 || nat_eq v 2) (is_spelled_number size) spelled) in
    let one = one_letter x in
    let first = joined (codes "tsucert ") (decimal v) 8 8 (omega arith) version in
    let second = joined (codes "tsucert " ++ decimal v) (codes " ") 16 1 first (omega arith) in
    let third = joined (codes "tsucert " ++ decimal v ++ codes " ") (decimal size) 17 8 second digits in
    let fourth = joined (codes "tsucert " ++ decimal v ++ codes " " ++ decimal size) (codes " ") 25 1 third (omega arith) in
    let whole = joined (codes "tsucert " ++ decimal v ++ codes " " ++ decimal size ++ codes " ") (colour_letter x) 26 1 fourth (omega (arith, one)) in
    omega (arith, whole)
line_length n small (lemma_line k passes c) h =
    let fits = and_first (line_fits n (lemma_line k passes c)) (numbers_spelled (lemma_line k passes c)) h in
    let low : passes ≤ 1 = leb-true passes 1 (and_first (nat_le passes 1) (nat_eq (length c) (n * n)) fits) in
    let cells = cells_most n c small (and_second (nat_le passes 1) (nat_eq (length c) (n * n)) fits) in
    let digit : length (decimal passes) ≤ 1 = length-decimal-le 1 passes (omega arith) (omega (arith, low)) (omega (arith, low)) in
    let one = one_letter k in
    let first = joined (codes "lemma ") (colour_letter k) 6 1 (omega arith) (omega (arith, one)) in
    let second = joined (codes "lemma " ++ colour_letter k) (codes " ") 7 1 first (omega arith) in
    let third = joined (codes "lemma " ++ colour_letter k ++ codes " ") (decimal passes) 8 1 second digit in
    let fourth = joined (codes "lemma " ++ colour_letter k ++ codes " " ++ decimal passes) (codes " ") 9 1 third (omega arith) in
    let whole = joined (codes "lemma " ++ colour_letter k ++ codes " " ++ decimal passes ++ codes " ") (text_of c) 10 MAX_POINTS fourth cells in
    omega (arith, whole)
line_length n small (had_line c) h =
    let cells = cells_most n c small (and_first (line_fits n (had_line c)) true h) in
    let whole = joined (codes "had ") (text_of c) 4 MAX_POINTS (omega arith) cells in
    omega (arith, whole)
line_length n small (not_line c) h =
    let cells = cells_most n c small (and_first (line_fits n (not_line c)) true h) in
    let whole = joined (codes "not ") (text_of c) 4 MAX_POINTS (omega arith) cells in
    omega (arith, whole)
line_length n small main_line h = omega arith
line_length n small won_line h = omega arith
line_length n small (use_line j) h =
    let digits = few_digits j (and_second true (is_spelled_number j) h) in
    let whole = joined (codes "use ") (decimal j) 4 8 (omega arith) digits in
    omega (arith, whole)
line_length n small (play_line t) h =
    let letters = few_letters n t in
    let whole = joined (codes "play ") (vertex_text n t) 5 4 (omega arith) letters in
    omega (arith, whole)
line_length n small (all_line m) h =
    let digits = few_digits m (and_second true (is_spelled_number m) h) in
    let whole = joined (codes "all ") (decimal m) 4 8 (omega arith) digits in
    omega (arith, whole)
line_length n small (reply_line t) h =
    let letters = few_letters n t in
    let whole = joined (codes "reply ") (vertex_text n t) 6 4 (omega arith) letters in
    omega (arith, whole)
line_length n small end_line h = omega arith

-- longer bytes spell no line
pub long_none : (n : ℕ) → n ≤ MAX_SIZE → (b : List ℕ) → max_line < length b → line_of n b ≡ None
long_none n small b long = at (line_of n b) refl
  where
    at : (o : Option Line) → line_of n b ≡ o → o ≡ None
    at None e = refl
    at (Some l) e =
        let both = line_of-is n b l e in
        let most = line_length n small l both.0 in
        let same = ap (λ (x : List ℕ). length x) both.1 in
        absurd (omega (arith, long, most, same))
