use Rattle.std.proofs.Common.{rules}
use Rattle.tsumego_problem.specs.Walk.{history_limit}
use Rattle.tsumego_problem.proofs.Records.{has_problem_node}
use Rattle.record_pages.proofs.page.problem_of.Goals as goal

pub returns-in-Ok-clause-node : goal.returns-in-Ok-clause-node
returns-in-Ok-clause-node c = has_problem_node history_limit c.args.tree.now c.in-Ok.problem (search rules)
