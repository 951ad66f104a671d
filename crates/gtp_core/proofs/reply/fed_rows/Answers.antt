use Rattle.gtp_core.proofs.Common.{rules, ◌≡◌, ◌∷◌, ◌++◌, [], ◌*◌, ◌+◌, ◌-◌, ◌∙◌, ap, take, drop, fed_rows}
use Rattle.gtp_core.proofs.Orders.{row_more}
use Rattle.gtp_core.proofs.reply.fed_rows.Goals as goal

pub loop-row-preserved : goal.loop-row-preserved
loop-row-preserved c =
    let n = c.args.rows in
    let row = c.loop-row.row in
    let text : c.extend_from_slice.new.self.items ≡ (c.loop-row.text.items ++ 10 ∷ []) ++ take n (drop (row * n) c.args.cells.now) = search rules in
    ap (λ xs. xs ++ fed_rows n (n - (row + 1)) (drop ((row + 1) * n) c.args.cells.now)) text ∙ row_more n row c.args.cells.now c.loop-row.text.items c.loop-row-test.true ∙ c.loop-row.invariant
