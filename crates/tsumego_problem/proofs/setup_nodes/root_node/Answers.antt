use Rattle.tsumego_problem.proofs.Common.{◌≡◌, ◌<◌, ◌^◌, ap, ◌∙◌, arith, is_node, root_node}
use Rattle.tsumego_problem.proofs.NodesMade.{root_made, root_is_node}
use Rattle.tsumego_problem.proofs.Opening.{no_stones}
use Rattle.tsumego_problem.proofs.setup_nodes.root_node.Goals as goal

pub node_of-requires : goal.node_of-requires
node_of-requires c =
    let n = c.args.size in let first = c.args.first.now in
    let made : c.push_changes.new.properties.items ≡ root_node n first =
    root_made n first c.empty.result c.as_slice.result.now c.new-properties.result.items c.push_one.new.properties.items c.push_one-2.new.properties.items c.push_one-3.new.properties.items c.push_changes.new.properties.items
    c.new-properties.ensures.items c.in_ok-push_one.ensures c.in_ok-push_one-2.ensures c.in_ok-push_one-3.ensures c.in_ok-push_changes.ensures (c.as_slice.ensures.value ∙ c.in_ok-rows.ensures) (c.empty.ensures.value ∙ no_stones n) in
    let small : n < 2 ^ 64 = omega (arith, c.area.ensures.most) in
    ap is_node made ∙ root_is_node n first small

pub returns : goal.returns
returns c =
    let n = c.args.size in let first = c.args.first.now in
    c.node_of.ensures
    ∙ root_made n first c.empty.result c.as_slice.result.now c.new-properties.result.items c.push_one.new.properties.items c.push_one-2.new.properties.items c.push_one-3.new.properties.items c.push_changes.new.properties.items
    c.new-properties.ensures.items c.in_ok-push_one.ensures c.in_ok-push_one-2.ensures c.in_ok-push_one-3.ensures c.in_ok-push_changes.ensures (c.as_slice.ensures.value ∙ c.in_ok-rows.ensures) (c.empty.ensures.value ∙ no_stones n)
