use Rattle.std.proofs.Common.{rules, ◌≡◌, ◌+◌, ◌*◌, ◌∙◌, bit_xor, ap, sym}
use Rattle.go_points.specs.Grid.{side_of, cell_at}
use Rattle.stone_key.specs.Key.{word_for, word_after}
use Rattle.stone_key.proofs.Keys.{key_below, key_of_none, key_of_more, key_of_all}
use Rattle.stone_key.proofs.key.key_of.Goals as goal

pub loop-number-init : goal.loop-number-init
loop-number-init c = sym (key_of_none c.args.colouring.now)

pub loop-number-preserved : goal.loop-number-preserved
loop-number-preserved c =
    let before = c.args.colouring.now in
    let i = c.loop-number.number in
    let held : c.cell.result ≡ cell_at before i = c.cell.ensures in
    ap (λ w. bit_xor c.loop-number.key w) (c.cell_word-key.ensures ∙ ap (λ x. word_for x (word_after (2 * i)) (word_after (2 * i + 1))) held)
    ∙ ap (λ k. bit_xor k (word_for (cell_at before i) (word_after (2 * i)) (word_after (2 * i + 1)))) c.loop-number.invariant
    ∙ sym (key_of_more before i)

pub returns : goal.returns
returns c =
    let n = side_of c.args.colouring.now in
    let done : c.loop-number.number ≡ n * n = search rules in
    c.loop-number.invariant ∙ ap (key_below c.args.colouring.now) done ∙ key_of_all c.args.colouring.now
