use Rattle.go_points.proofs.Narrowing.{IsCopied}
use Rattle.go_points.specs.Private.Words.{word_count}
use Rattle.go_points.proofs.point_bits.wide_bits.Given as goal

abbrev pub invariant-loop-index : goal.invariant-loop-index
invariant-loop-index l = IsCopied l.bits l.wide word_count l.index
