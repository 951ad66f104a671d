use Rattle.std.proofs.Common.{arith, ◌<◌}
use Rattle.proof_cert.proofs.Reading.{below_limit}
use Rattle.proof_cert.proofs.line.read_number.Goals as goal

pub overflow_mul-value : goal.overflow_mul-value
overflow_mul-value c =
    let small : c.loop-digit.value < 10000000 = below_limit c.loop-digit.digit-index c.loop-digit.value (omega (arith, c.loop-digit.invariant.0, c.loop-digit-test.true)) c.loop-digit.invariant.1.below in
    omega arith

pub overflow_add-value : goal.overflow_add-value
overflow_add-value c =
    let small : c.loop-digit.value < 10000000 = below_limit c.loop-digit.digit-index c.loop-digit.value (omega (arith, c.loop-digit.invariant.0, c.loop-digit-test.true)) c.loop-digit.invariant.1.below in
    omega arith
