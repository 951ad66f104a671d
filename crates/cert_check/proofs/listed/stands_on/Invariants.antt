use Rattle.std.proofs.Common.{◌-◌}
use Rattle.cert_check.proofs.Ascending.{IsSplit}
use Rattle.cert_check.proofs.listed.stands_on.Given as goal

abbrev pub invariant-halving : goal.invariant-halving
invariant-halving l = IsSplit l.list l.colouring l.low l.high

abbrev pub decreases-halving : goal.decreases-halving
decreases-halving l = l.high - l.low
