use Rattle.proof_cert.proofs.Common.{◌≡◌, take, text_of}
use Rattle.arrayvec.specs.ArrayVec.{array_vec_len}
use Rattle.proof_cert.proofs.line_text.cells_of.Given as goal

abbrev pub invariant-loop-number : goal.invariant-loop-number
invariant-loop-number l = record {
  items : l.cells.items ≡ text_of (take l.number l.colouring);
  len : array_vec_len l.cells ≡ l.number;
}
