use Rattle.solution_tree.proofs.tree_audit.audit_all.Goals as goal

pub returns-clause-err : goal.returns-clause-err
returns-clause-err c = c.no_memory.ensures.fault _ _
