use Rattle.std.proofs.Common.{◌≡◌, ◌+◌, ◌*◌, ◌<◌, ℕ, bit_xor, refl, ◌∙◌, ap, ap₂, subst}
use Rattle.go_points.specs.declared.Cell.{Cell}
use Rattle.go_points.specs.Grid.{side_of}
use Rattle.go_points.specs.Place.{number_of}
use Rattle.stone_key.specs.Key.{word_after, word_for, point_word}
use Rattle.stone_key.proofs.Changes.{key_of_set}
use Rattle.stone_key.proofs.keyed_colouring.KeyedColouring.set.Goals as goal

pub invariant_of-self : goal.invariant_of-self
invariant_of-self c =
    let cells = c.self.inside.colouring in
    let n = side_of cells in
    let p = number_of n c.args.point in
    let here : c.number-number.result ≡ p = c.number-number.ensures.value ∙ ap (λ (m : ℕ). number_of m c.args.point) c.size-size.ensures.value in
    let on : p < n * n = subst (λ (i : ℕ). i < n * n) here (subst (λ (m : ℕ). c.number-number.result < m * m) c.size-size.ensures.value c.number-number.ensures.within) in
    let word : (a : Cell) → word_for a (word_after (2 * c.number-number.result)) (word_after (2 * c.number-number.result + 1)) ≡ word_for a (word_after (2 * p)) (word_after (2 * p + 1)) =
    λ a. ap (λ (i : ℕ). word_for a (word_after (2 * i)) (word_after (2 * i + 1))) here in
    let first : c.cell_word.result ≡ point_word cells p = c.cell_word.ensures ∙ word c.get-before.result ∙ ap (λ (a : Cell). word_for a (word_after (2 * p)) (word_after (2 * p + 1))) c.get-before.ensures.value in
    let last = c.cell_word-2.ensures ∙ word c.args.cell in
    ap₂ (λ (a b : ℕ). bit_xor a b) (ap₂ (λ (a b : ℕ). bit_xor a b) c.self.invariant first) last
    ∙ key_of_set n cells c.set.new.self p c.args.cell c.size-size.ensures.colouring.full refl c.set.ensures.size c.set.ensures.value on
