use Rattle.tsumego_problem.proofs.Common.{◌≡◌, ◌≤◌, drop, option_and_then, MAX_SIZE, digits_value, board_of}
use Rattle.tsumego_problem.proofs.Numbers.{board_from}
use Rattle.tsumego_problem.proofs.sizes.read_digits.Given as goal

abbrev pub invariant-loop-digit : goal.invariant-loop-digit
invariant-loop-digit l = (l.number ≤ MAX_SIZE) × (board_from l.number (drop l.digit-index l.digits) ≡ option_and_then board_of (digits_value l.digits))
