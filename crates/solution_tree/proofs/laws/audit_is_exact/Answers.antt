use Rattle.solution_tree.proofs.Exact.{audit_is_exact}
use Rattle.solution_tree.proofs.laws.audit_is_exact.Goals as goal

pub returns : goal.returns
returns c = audit_is_exact
