use Rattle.proof_cert.proofs.Common.{◌≡◌, length, HasNoFeed, Uses}
use Rattle.proof_cert.proofs.reader_source.read_piece.Given as goal

abbrev pub invariant-loop : goal.invariant-loop
invariant-loop g l = HasNoFeed l.line.items × Uses l.initial.bytes l.bytes l.line.items × (length l.line.items ≡ l.counter)
