use Rattle.tsumego_problem.proofs.SolutionRecord.{solution_reads}
use Rattle.tsumego_problem.proofs.laws.solution_reads.Goals as goal

pub returns : goal.returns
returns c = solution_reads
