use Rattle.std.proofs.Common.{◌≡◌, length, sym, ◌∙◌, subst, arith}
use Rattle.go_points.proofs.Texts.{ReadSoFar, read_all, unreadable}
use Rattle.go_points.proofs.colouring.Colouring.from_text.Goals as goal

pub returns-in_err-cell-clause-value : goal.returns-in_err-cell-clause-value
returns-in_err-cell-clause-value c =
    c.from_residual.ensures ∙ sym (unreadable c.args.size c.args.text.now c.loop-number.number c.loop-number-test.true (sym c.from_byte.ensures ∙ c.in_err-cell.was))

pub returns-clause-value : goal.returns-clause-value
returns-clause-value c =
    let text = c.args.text.now in
    let whole : c.loop-number.number ≡ length text = omega arith in
    sym (read_all c.args.size text c.loop-number.colouring (c.if-text-area.false ∙ c.area.ensures.value) (subst (λ k. ReadSoFar c.args.size text c.loop-number.colouring k) whole c.loop-number.invariant))
