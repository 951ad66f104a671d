use Rattle.solution_tree.proofs.Common.{forest_of, nodes_of}
use Rattle.solution_tree.proofs.Found.{fault_same}
use Rattle.solution_tree.proofs.first_line.first_line.Goals as goal

pub returns-in-Err-clause-err : goal.returns-in-Err-clause-err
returns-in-Err-clause-err c =
    fault_same c.loop-end.state.state.game.size c.args.state.now.state.game.size _ _ c.in-Err.fault c.loop-end.invariant.0 c.loop-end.invariant.1
    (c.in-Err.ensures.err (nodes_of (forest_of c.loop-end.behind.now)))
