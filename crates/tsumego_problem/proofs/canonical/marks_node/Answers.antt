use Rattle.tsumego_problem.proofs.Common.{ap, ◌∙◌, is_node}
use Rattle.tsumego_problem.proofs.NodesMade.{marks_are_node}
use Rattle.tsumego_problem.proofs.canonical.marks_node.Goals as goal

pub node_of-requires : goal.node_of-requires
node_of-requires c = ap is_node c.in_ok-mark_properties.ensures ∙ marks_are_node c.args.problem.now
