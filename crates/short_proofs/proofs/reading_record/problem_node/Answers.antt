use Rattle.tsumego_problem.specs.Canonical.{marks}
use Rattle.short_proofs.proofs.Winners.{marked_result}
use Rattle.short_proofs.proofs.reading_record.problem_node.Goals as goal

pub returns-in_default : goal.returns-in_default
returns-in_default c = marked_result c.args.winner (marks c.args.problem.now) c.marks_with_winner.result c.marks_with_winner.ensures

pub returns-in_default-2 : goal.returns-in_default-2
returns-in_default-2 c = marked_result c.args.winner (marks c.args.problem.now) c.marks_with_winner-in_default-2.result c.marks_with_winner-in_default-2.ensures
