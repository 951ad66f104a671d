use Rattle.std.proofs.Common.{◌≤◌, length}
use Rattle.proof_cert.proofs.Reading.{NumberSoFar}
use Rattle.proof_cert.proofs.line.read_number.Given as goal

abbrev pub invariant-loop-digit : goal.invariant-loop-digit
invariant-loop-digit l = (length l.text ≤ 8) × NumberSoFar l.text l.digit-index l.value
