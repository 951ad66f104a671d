use Rattle.solution_tree.proofs.tree_audit.first_winner.Goals as goal

pub returns-in-Err-clause-err : goal.returns-in-Err-clause-err
returns-in-Err-clause-err c = c.no_memory.ensures.fault _ _
