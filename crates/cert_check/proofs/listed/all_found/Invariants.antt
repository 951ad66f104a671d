use Rattle.cert_check.proofs.Common.{has_occurred, AllAfter}
use Rattle.cert_check.proofs.listed.all_found.Given as goal

abbrev pub invariant-loop-index : goal.invariant-loop-index
invariant-loop-index l = AllAfter (has_occurred l.list) l.few l.index
