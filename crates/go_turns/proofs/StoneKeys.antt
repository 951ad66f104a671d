-- The key of a colouring with one stone more.
use Rattle.go_turns.proofs.Common.{◌≡◌, ℕ, ◌+◌, ◌*◌, ◌<◌, ◌≤◌, List, length, length-set, set, bit_xor, sym, ◌∙◌, ap, arith, get_or-set_same, get_or-set_other, Colour, Cell, Empty, Stone, cell_at, side_of, key_of, word_for, word_after}
use Rattle.std.proofs.Common.{◌≢◌, zero-le}
use Rattle.std.specs.List.{range_with_len}
use Rattle.std.specs.Int.Bits.{xor_zero_l}
use Rattle.std.proofs.lemmas.Nat.{xor_comm}
use Rattle.go_points.specs.Grid.{points}
use Rattle.go_points.specs.Private.Sides.{side_of-whole}
use Rattle.stone_key.specs.Key.{point_word}
use Rattle.stone_key.proofs.Xors.{xor_from, xor_range_one}

xor_zero : (x : ℕ) → bit_xor x 0 ≡ x
xor_zero x = xor_comm x 0 ∙ xor_zero_l x

-- where there was no word at p, the new one comes in
xor_one : (f g : ℕ → ℕ) (s a m p : ℕ) → a ≤ p → p < a + m → g p ≡ 0 → ((q : ℕ) → q ≢ p → f q ≡ g q) → xor_from s f (range_with_len a m) ≡ bit_xor (xor_from s g (range_with_len a m)) (f p)
xor_one f g s a m p low high none e =
    let rest = xor_from s g (range_with_len a m) in
    xor_range_one f g s a m p low high e ∙ ap (λ w. bit_xor w (f p)) (ap (bit_xor rest) none ∙ xor_zero rest)

pub key_with : (n : ℕ) (c : List Cell) (p : ℕ) (k : Colour) → length c ≡ n * n → side_of c ≡ n → p < n * n → cell_at c p ≡ Empty
    → bit_xor (key_of c) (word_for (Stone k) (word_after (2 * p)) (word_after (2 * p + 1))) ≡ key_of (set c p (Stone k))
unfolding key_of
key_with n c p k whole side on empty =
    let d : List Cell = set c p (Stone k) in
    let word : Cell → ℕ → ℕ = λ a q. word_for a (word_after (2 * q)) (word_after (2 * q + 1)) in
    let here : cell_at d p ≡ Stone k = get_or-set_same c p (Stone k) Empty (omega (arith, on, whole)) in
    let others : (q : ℕ) → q ≢ p → point_word d q ≡ point_word c q = λ q other. ap (λ a. word a q) (get_or-set_other c p q (Stone k) Empty other) in
    let long : side_of d ≡ n = side_of-whole d n (length-set c p (Stone k) ∙ whole) in
    let change = xor_one (point_word d) (point_word c) 0 0 (n * n) p zero-le (omega (arith, on)) (ap (λ a. word a p) empty) others in
    ap (λ m. bit_xor (xor_from 0 (point_word c) (points m)) (word (Stone k) p)) side
    ∙ sym (change ∙ ap (λ a. bit_xor (xor_from 0 (point_word c) (points n)) (word a p)) here)
    ∙ ap (λ m. xor_from 0 (point_word d) (points m)) (sym long)
