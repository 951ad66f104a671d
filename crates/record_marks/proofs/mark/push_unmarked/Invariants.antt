use Rattle.std.proofs.Common.{◌≡◌, ◌++◌, take, map}
use Rattle.record_marks.specs.Marked.{unmarked}
use Rattle.record_marks.proofs.mark.push_unmarked.Given as goal

abbrev pub invariant-loop-i : goal.invariant-loop-i
invariant-loop-i l = l.into.items ≡ l.fn.into.items ++ map unmarked (take l.i l.nodes)
