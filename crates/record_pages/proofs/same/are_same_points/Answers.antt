use Rattle.std.proofs.Common.{sym, ◌∙◌}
use Rattle.record_pages.proofs.Pages.{places_same}
use Rattle.record_pages.proofs.same.are_same_points.Goals as goal

pub returns : goal.returns
returns c = λ h. places_same c.args.first.now c.args.second.now (sym c.eq.ensures ∙ h)
