use Rattle.record_marks.proofs.Chains.{BothSoFar}
use Rattle.record_marks.proofs.region.joined.Given as goal

abbrev pub invariant-loop-number : goal.invariant-loop-number
invariant-loop-number l = BothSoFar l.size l.first l.second l.all l.number
