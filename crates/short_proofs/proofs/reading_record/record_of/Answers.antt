use Rattle.short_proofs.proofs.Winners.{verdict_then, verdict_last}
use Rattle.short_proofs.proofs.reading_record.record_of.Goals as goal

pub returns-in-Some-eq1 : goal.returns-in-Some-eq1
returns-in-Some-eq1 c = verdict_then c.args.winner c.in_ok-nodes.nodes.items c.push-2.new.self.items c.in_ok-problem_node.field-0 c.in_ok-push-2.ensures.items c.in_ok-problem_node.ensures c.tree_from-in-Some-eq1.result c.tree_from-in-Some-eq1.ensures

pub returns-in-Some : goal.returns-in-Some
returns-in-Some c = verdict_last c.args.winner c.in_ok-nodes.nodes.items c.push-2.new.self.items c.in_ok-problem_node.field-0 c.in_ok-push-2.ensures.items c.in_ok-problem_node.ensures c.tree_of.result c.tree_of.ensures

pub returns : goal.returns
returns c = verdict_last c.args.winner c.in_ok-nodes.nodes.items c.push-2.new.self.items c.in_ok-problem_node.field-0 c.in_ok-push-2.ensures.items c.in_ok-problem_node.ensures c.tree_of-in-None.result c.tree_of-in-None.ensures
