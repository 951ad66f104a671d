use Rattle.tsumego_problem.proofs.Common.{◌≡◌, drop, values_at}
use Rattle.tsumego_problem.proofs.main_line.values_at.Given as goal

abbrev pub invariant-loop-property : goal.invariant-loop-property
invariant-loop-property l = values_at l.name (drop l.property-index l.node) ≡ values_at l.name l.node
