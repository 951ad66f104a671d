-- No line of a short claim is longer than the longest line of the widest board.
use Rattle.proof_cert.proofs.Common.{◌≡◌, ℕ, ◌<◌, ◌≤◌, List, ◌∷◌, length, Option, Some, None, codes, refl, ap, ◌∙◌, arith, length-append, MAX_SIZE, Spelling, Ordinary, Short, Line, header_line, use_line, after_word, at_end, at_space, behind, colour_of, header_rest, line_by, line_of, max_line, no_header, number_of, or_else, parted}
use Rattle.proof_cert.proofs.Words.{number_of-is, colour_of-is}
use Rattle.proof_cert.proofs.Texts.{behind_is, end_is, pair_is, space_is}
use Rattle.proof_cert.proofs.LineLengths.{few_digits, long_none, one_letter}
use Rattle.proof_cert.proofs.Bodies.{none_of}

-- the size and the winner of a first line take at most ten bytes
rest_length : (r : List ℕ) (l : Line) → header_rest 2 r ≡ Some l → length r ≤ 10
rest_length r l e = split (at_space r) refl e
  where
    split : (o : Option (List ℕ × List ℕ)) → at_space r ≡ o → parted (λ size winner. header_line 2 size winner) number_of colour_of o ≡ Some l → length r ≤ 10
    split None e1 e2 = absurd (cc)
    split (Some p) e1 e2 =
        let parts = pair_is (λ size winner. header_line 2 size winner) (number_of p.0) (colour_of p.1) l e2 in
        let num = number_of-is p.0 parts.0 parts.2 in
        let few = few_digits parts.0 num.0 in
        let size = ap (λ (b : List ℕ). length b) num.1 in
        let letter = ap (λ (b : List ℕ). length b) (colour_of-is p.1 parts.1 parts.3) in
        let one = one_letter parts.1 in
        let both = length-append p.0 (32 ∷ p.1) in
        let whole = ap (λ (b : List ℕ). length b) (space_is r p e1) in
        omega (arith, few, size, letter, one, both, whole)

long_header : (b : List ℕ) → max_line < length b → behind (codes "tsushort 1 ") (header_rest 2) b ≡ None
long_header b long = none_of (behind (codes "tsushort 1 ") (header_rest 2) b) (λ l e.
    let parts = behind_is (codes "tsushort 1 ") (header_rest 2) b l e in
    let few = rest_length parts.0 l parts.2 in
    let whole = ap (λ (y : List ℕ). length y) parts.1 in
    let both = length-append (codes "tsushort 1 ") parts.0 in
    omega (arith, long, few, whole, both))

long_alive : (b : List ℕ) → max_line < length b → at_end (use_line 0) (after_word (codes "alive") b) ≡ None
long_alive b long = none_of (at_end (use_line 0) (after_word (codes "alive") b)) (λ l e.
    let same = ap (λ (y : List ℕ). length y) (end_is (use_line 0) (codes "alive") b l e).1 in
    omega (arith, long, same))

pub long_by : (y : Spelling) (n : ℕ) → n ≤ MAX_SIZE → (b : List ℕ) → max_line < length b → line_by y n b ≡ None
long_by Ordinary n small b long = long_none n small b long
long_by Short n small b long =
    ap (λ (o : Option Line). or_else o (or_else (at_end (use_line 0) (after_word (codes "alive") b)) (no_header (line_of n b)))) (long_header b long)
    ∙ ap (λ (o : Option Line). or_else o (no_header (line_of n b))) (long_alive b long)
    ∙ ap no_header (long_none n small b long)
