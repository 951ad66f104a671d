use Rattle.tsumego_problem.proofs.Common.{values_at, turn_in}
use Rattle.std.specs.Prelude.{is_none}
use Rattle.target_game.proofs.Loops.{AnyAfter}
use Rattle.tsumego_problem.proofs.node_fault.is_bad_turn.Given as goal

abbrev pub invariant-loop-value : goal.invariant-loop-value
invariant-loop-value l = AnyAfter (λ value. is_none (turn_in l.size value)) (values_at l.name l.node) l.value-index
