use Rattle.std.proofs.Common.{◌≡◌, ◌++◌, List}
use Rattle.sgf_text.specs.Trees.{Node}
use Rattle.short_proofs.proofs.reading_record.tree_from.Given as goal

abbrev pub invariant-loop-at : goal.invariant-loop-at
invariant-loop-at l = (more : List Node) × (l.nodes.items ≡ l.fn.nodes.items ++ more)
