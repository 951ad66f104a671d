-- The key with one stone more, on the size of the present colouring.
use Rattle.go_turns.proofs.Common.{◌≡◌, ◌*◌, ◌+◌, ◌<◌, ℕ, [], List, get_or, length, set, bit_xor, refl, sym, ap, ap₂, ◌∙◌, subst, get_or_from_slice_get, Cell, Empty, Stone, cell_at, side_of, IsOn, number_of, number_below, key_of, word_for, word_after, GameRecord, colouring_of}
use Rattle.go_turns.proofs.StoneKeys.{key_with}
use Rattle.go_turns.proofs.record.Record.key_with_stone.Goals as goal

pub returns : goal.returns
returns g c =
    let history = g.S.Seen.content c.self.inside.seen in
    let place = c.self.inside.place in
    let board = g.B.Board.content c.self.inside.board in
    let k = c.args.colour in
    let n : ℕ = side_of board in
    let p : ℕ = number_of n c.args.point in
    let d : List Cell = c.at.result.now in
    let here : get_or history place [] ≡ board = c.self.invariant.here.same in
    let same : d ≡ board = sym (get_or_from_slice_get history place d [] c.at.ensures) ∙ here in
    let whole : length board ≡ n * n = subst (λ (e : List Cell). length e ≡ side_of e * side_of e) same c.size-size.ensures.colouring.full in
    let on : p < n * n = number_below n c.args.point (subst (λ (r : GameRecord). IsOn r.size c.args.point) (sym c.self.view_is) c.requires.on_board) in
    let free : cell_at (get_or history place []) p ≡ Empty = subst (λ (r : GameRecord). cell_at (colouring_of r.present) (number_of r.size c.args.point) ≡ Empty) (sym c.self.view_is) c.requires.empty in
    let empty : cell_at board p ≡ Empty = sym (ap (λ (e : List Cell). cell_at e p) here) ∙ free in
    let number : c.number.result ≡ p = c.number.ensures.value ∙ ap (λ (m : ℕ). number_of m c.args.point) (c.size-size.ensures.value ∙ ap side_of same) in
    let word : c.stone_word.result ≡ word_for (Stone k) (word_after (2 * p)) (word_after (2 * p + 1)) = c.stone_word.ensures ∙ ap (λ (i : ℕ). word_for (Stone k) (word_after (2 * i)) (word_after (2 * i + 1))) number in
    subst (λ (r : GameRecord). bit_xor c.key.result c.stone_word.result ≡ key_of (set (colouring_of r.present) (number_of r.size c.args.point) (Stone k))) c.self.view_is
    (ap₂ (λ (a b : ℕ). bit_xor a b) c.key.ensures word ∙ key_with n board p k whole refl on empty ∙ ap (λ (e : List Cell). key_of (set e p (Stone k))) (sym here))
