-- The key of a colouring in which one point is changed, and of one without stones.
use Rattle.std.proofs.Common.{◌≡◌, ◌≢◌, ℕ, ◌+◌, ◌*◌, ◌<◌, List, [], ◌∷◌, length, replicate, set, bit_xor, refl, sym, ◌∙◌, ap, arith, zero-le}
use Rattle.std.proofs.lemmas.List.{get_or-set_same, get_or-set_other}
use Rattle.go_points.specs.declared.Cell.{Cell}
use Rattle.go_points.specs.declared.Cell.TheVariants.{Empty}
use Rattle.go_points.specs.Grid.{cell_at, points, side_of}
use Rattle.stone_key.specs.Key.{word_after, word_for, point_word, key_of}
use Rattle.stone_key.proofs.Xors.{xor_from, xor_range_one}
use Rattle.go_points.proofs.Liberties.{blank as all_empty}

no_words : (f : ℕ → ℕ) (xs : List ℕ) → ((x : ℕ) → f x ≡ 0) → xor_from 0 f xs ≡ 0
no_words f [] none = refl
no_words f (x ∷ xs) none = ap (λ w. xor_from (bit_xor 0 w) f xs) (none x) ∙ no_words f xs none

pub key_of_empty : (c : List Cell) (m : ℕ) → c ≡ replicate m Empty → key_of c ≡ 0
unfolding key_of
key_of_empty c m is = no_words (point_word c) (points (side_of c)) (λ p. ap (λ a. word_for a (word_after (2 * p)) (word_after (2 * p + 1))) (ap (λ l. cell_at l p) is ∙ all_empty m p))

-- the word of what was there goes out, and that of the cell comes in
pub key_of_set : (n : ℕ) (c d : List Cell) (p : ℕ) (x : Cell) → length c ≡ n * n → side_of c ≡ n → side_of d ≡ n → d ≡ set c p x → p < n * n
    → bit_xor (bit_xor (key_of c) (point_word c p)) (word_for x (word_after (2 * p)) (word_after (2 * p + 1))) ≡ key_of d
unfolding key_of
key_of_set n c d p x whole before after is on =
    let here : cell_at d p ≡ x = ap (λ l. cell_at l p) is ∙ get_or-set_same c p x Empty (omega (arith, on, whole)) in
    let others : (q : ℕ) → q ≢ p → point_word d q ≡ point_word c q = λ q ne. ap (λ a. word_for a (word_after (2 * q)) (word_after (2 * q + 1))) (ap (λ l. cell_at l q) is ∙ get_or-set_other c p q x Empty ne) in
    let change = xor_range_one (point_word d) (point_word c) 0 0 (n * n) p zero-le (omega (arith, on)) others in
    ap (λ m. bit_xor (bit_xor (xor_from 0 (point_word c) (points m)) (point_word c p)) (word_for x (word_after (2 * p)) (word_after (2 * p + 1)))) before
    ∙ sym (change ∙ ap (λ a. bit_xor (bit_xor (xor_from 0 (point_word c) (points n)) (point_word c p)) (word_for a (word_after (2 * p)) (word_after (2 * p + 1)))) here)
    ∙ ap (λ m. xor_from 0 (point_word d) (points m)) (sym after)
