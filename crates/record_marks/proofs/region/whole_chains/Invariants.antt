use Rattle.go_points.specs.Grid.{side_of}
use Rattle.record_marks.proofs.Chains.{WholeSoFar}
use Rattle.record_marks.proofs.region.whole_chains.Given as goal

abbrev pub invariant-loop-number : goal.invariant-loop-number
invariant-loop-number l = WholeSoFar (side_of l.board) l.board l.targets l.whole l.number
