use Rattle.solution_tree.proofs.Ascending.{expansions_ascend}
use Rattle.solution_tree.proofs.laws.expansions_ascend.Goals as goal

pub returns : goal.returns
returns c = expansions_ascend
