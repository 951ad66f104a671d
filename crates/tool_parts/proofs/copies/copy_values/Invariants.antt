use Rattle.std.proofs.Common.{◌≡◌, take}
use Rattle.tool_parts.proofs.copies.copy_values.Given as goal

abbrev pub invariant-loop-i : goal.invariant-loop-i
invariant-loop-i l = l.copy.items ≡ take l.i l.values
