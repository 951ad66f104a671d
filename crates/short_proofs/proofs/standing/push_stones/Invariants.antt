use Rattle.std.proofs.Common.{◌≡◌, ◌++◌}
use Rattle.go_points.specs.Grid.{side_of}
use Rattle.short_proofs.specs.Says.{stones_text}
use Rattle.short_proofs.proofs.standing.push_stones.Given as goal

abbrev pub invariant-loop-number : goal.invariant-loop-number
invariant-loop-number l = l.text.items ≡ l.initial.text.items ++ stones_text (side_of l.stones) l.keeper l.stones l.number
