use Rattle.cert_check.proofs.Common.{◌≡◌, ◌≤◌, slice_get}
use Rattle.cert_check.proofs.Ascending.{PassLeft}
use Rattle.cert_check.proofs.listed.all_passed.Given as goal

abbrev pub invariant-loop-index : goal.invariant-loop-index
invariant-loop-index l = record {
  left : PassLeft l.few l.list l.place l.index;
  next : l.wanted ≡ slice_get l.few l.place;
  within : l.place ≤ l.index;
}
