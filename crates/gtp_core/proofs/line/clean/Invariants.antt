use Rattle.gtp_core.proofs.Common.{◌≡◌, ◌≤◌, ◌++◌, drop, cleaned}
use Rattle.arrayvec.specs.ArrayVec.{array_vec_len}
use Rattle.gtp_core.proofs.line.clean.Given as goal

abbrev pub invariant-loop-place : goal.invariant-loop-place
invariant-loop-place l = (array_vec_len l.text ≤ l.place) × (l.text.items ++ cleaned (drop l.place l.line) ≡ cleaned l.line)
