use Rattle.tsumego_problem.proofs.Common.{ap, ◌∙◌, is_node, changes}
use Rattle.tsumego_problem.proofs.NodesMade.{alone, changes_are_node}
use Rattle.tsumego_problem.proofs.setup_nodes.changes_node.Goals as goal

pub node_of-requires : goal.node_of-requires
node_of-requires c =
    let n = c.args.size in let old = c.args.old.now in let new = c.args.new.now in
    ap is_node (alone c.new-properties.result.items c.push_changes.new.properties.items (changes n old new) c.new-properties.ensures.items c.in_ok-push_changes.ensures) ∙ changes_are_node n old new
