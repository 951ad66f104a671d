use Rattle.std.proofs.Common.{◌∙◌, sym}
use Rattle.tsumego_problem.proofs.Sharing.{lacks_either}
use Rattle.tsumego_problem.proofs.node_fault.share_point.Goals as goal

pub returns-else-has_both : goal.returns-else-has_both
returns-else-has_both c = c.if-has_both.false ∙ sym (lacks_either c.args.size c.args.first.now c.args.second.now c.args.node.now (sym c.has_both.ensures ∙ c.if-has_both.false))
