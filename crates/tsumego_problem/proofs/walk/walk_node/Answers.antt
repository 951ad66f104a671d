use Rattle.tsumego_problem.proofs.Common.{Some, sym, ◌∙◌, history_limit, walk_of}
use Rattle.tsumego_problem.proofs.Walking.{walked_on, walked_to}
use Rattle.tsumego_problem.proofs.walk.walk_node.Goals as goal

pub returns-in-Some-late_fault : goal.returns-in-Some-late_fault
returns-in-Some-late_fault c other =
    walked_to (Some history_limit) c.args.size c.args.number c.args.node.now (walk_of c.args.played.now c.args.mover) (walk_of c.change.new.played c.in-Ok.mover) c.in-Some-late_fault.fault
    (sym c.node_fault.ensures ∙ c.in_default.is) c.in-Ok.ensures.0 (sym (c.late_fault.ensures c.in-Ok.mover) ∙ c.in-Some-late_fault.is)

pub returns-in-None : goal.returns-in-None
returns-in-None c = (
  walked_on (Some history_limit) c.args.size c.args.number c.args.node.now (walk_of c.args.played.now c.args.mover) (walk_of c.change.new.played c.in-Ok.mover)
      (sym c.node_fault.ensures ∙ c.in_default.is) c.in-Ok.ensures.0 (sym (c.late_fault.ensures c.in-Ok.mover) ∙ c.in-None.is),
  c.in-Ok.ensures.1,
)
