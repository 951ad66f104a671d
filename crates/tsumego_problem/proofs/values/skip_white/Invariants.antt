use Rattle.tsumego_problem.proofs.Common.{◌≡◌, drop, skip_white}
use Rattle.tsumego_problem.proofs.values.skip_white.Given as goal

abbrev pub invariant-loop-start : goal.invariant-loop-start
invariant-loop-start l = skip_white (drop l.start l.text) ≡ skip_white l.text
