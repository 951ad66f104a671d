use Rattle.byte_writer.proofs.TakenLemmas.{part_written}
use Rattle.proof_cert.proofs.claim_text.write_spelled.Goals as goal

pub returns-clause-cut : goal.returns-clause-cut
returns-clause-cut g c = part_written (rw c.new-pending.ensures at c.put_claim.ensures) _ c.finish.result c.finish.ensures
