use Rattle.tsumego_problem.proofs.SolutionRecord.{solution_shows}
use Rattle.tsumego_problem.proofs.laws.solution_shows.Goals as goal

pub returns : goal.returns
returns c = solution_shows
