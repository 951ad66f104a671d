use Rattle.gtp_core.proofs.Common.{◌≡◌, ◌-◌, ◌*◌, ◌++◌, drop, fed_rows}
use Rattle.gtp_core.proofs.reply.fed_rows.Given as goal

abbrev pub invariant-loop-row : goal.invariant-loop-row
invariant-loop-row l = l.text.items ++ fed_rows l.rows (l.rows - l.row) (drop (l.row * l.rows) l.cells) ≡ fed_rows l.rows l.rows l.cells
