use Rattle.solution_tree.proofs.tree_audit.audit.Goals as goal

pub returns-in_default-clause-err : goal.returns-in_default-clause-err
returns-in_default-clause-err c = c.no_memory.ensures.fault _ _
