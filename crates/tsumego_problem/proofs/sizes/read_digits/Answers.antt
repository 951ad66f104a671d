use Rattle.std.proofs.Common.{sym, ◌∙◌}
use Rattle.tsumego_problem.proofs.Numbers.{stops}
use Rattle.tsumego_problem.proofs.sizes.read_digits.Goals as goal

pub returns-in_default : goal.returns-in_default
returns-in_default c = sym (stops c.loop-digit.number c.loop-digit.digit-index c.args.digits.now c.loop-digit-test.true (sym c.in_default.is ∙ c.with_digit.ensures)) ∙ c.loop-digit.invariant.1
