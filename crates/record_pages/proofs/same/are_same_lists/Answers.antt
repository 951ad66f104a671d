use Rattle.std.proofs.Common.{sym, ◌∙◌}
use Rattle.record_pages.proofs.Pages.{lists_same}
use Rattle.record_pages.proofs.same.are_same_lists.Goals as goal

pub returns : goal.returns
returns c = λ h. lists_same c.args.first.now c.args.second.now (sym c.eq.ensures ∙ h)
