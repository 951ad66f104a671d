use Rattle.cert_check.proofs.Apart.{MeetLeft}
use Rattle.cert_check.proofs.listed.none_met.Given as goal

abbrev pub invariant-loop-index : goal.invariant-loop-index
invariant-loop-index l = MeetLeft l.few l.list l.place l.index
