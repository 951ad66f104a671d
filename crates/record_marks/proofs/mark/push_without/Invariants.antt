use Rattle.std.proofs.Common.{◌≡◌, ◌++◌, take}
use Rattle.sgf_text.specs.Nodes.{without}
use Rattle.record_marks.proofs.mark.push_without.Given as goal

abbrev pub invariant-loop-i : goal.invariant-loop-i
invariant-loop-i l = l.into.items ≡ l.fn.into.items ++ without l.name (take l.i l.properties)
