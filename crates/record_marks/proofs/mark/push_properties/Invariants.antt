use Rattle.std.proofs.Common.{◌≡◌, ◌++◌, take}
use Rattle.record_marks.proofs.mark.push_properties.Given as goal

abbrev pub invariant-loop-i : goal.invariant-loop-i
invariant-loop-i l = l.into.items ≡ l.fn.into.items ++ take l.i l.properties
