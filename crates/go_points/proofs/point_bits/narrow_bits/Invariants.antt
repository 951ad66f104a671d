use Rattle.go_points.proofs.Narrowing.{IsCopied}
use Rattle.go_points.specs.Private.Narrow.{narrow_count}
use Rattle.go_points.proofs.point_bits.narrow_bits.Given as goal

abbrev pub invariant-loop-index : goal.invariant-loop-index
invariant-loop-index l = IsCopied l.bits l.narrow narrow_count l.index
