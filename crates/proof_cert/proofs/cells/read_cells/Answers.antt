use Rattle.std.proofs.Common.{◌≡◌, length, sym, ◌∙◌, subst, arith}
use Rattle.go_points.proofs.Texts.{ReadSoFar, read_all, unreadable}
use Rattle.proof_cert.proofs.cells.read_cells.Goals as goal

pub returns-in_err-cell : goal.returns-in_err-cell
returns-in_err-cell c =
    c.from_residual.ensures ∙ sym (unreadable c.args.size c.args.text.now c.loop-number.number c.loop-number-test.true (sym c.read_cell.ensures ∙ c.in_err-cell.was))

pub returns : goal.returns
returns c =
    let text = c.args.text.now in
    let whole : c.loop-number.number ≡ length text = omega arith in
    sym (read_all c.args.size text c.loop-number.colouring (c.if-text-area.false ∙ c.area.ensures.value) (subst (λ k. ReadSoFar c.args.size text c.loop-number.colouring k) whole c.loop-number.invariant.so_far))
