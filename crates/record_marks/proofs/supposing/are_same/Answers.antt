use Rattle.std.proofs.Common.{sym, ◌∙◌}
use Rattle.go_points.specs.Equal.{same_cells_eq}
use Rattle.record_marks.proofs.supposing.are_same.Goals as goal

pub returns : goal.returns
returns c = λ h. sym (same_cells_eq c.args.first.now c.args.second.now (sym c.eq.ensures ∙ h))
