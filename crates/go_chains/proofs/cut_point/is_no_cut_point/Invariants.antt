use Rattle.std.specs.Bool.{⊤}
use Rattle.go_chains.proofs.cut_point.is_no_cut_point.Given as goal

abbrev pub invariant-loop-neighbour : goal.invariant-loop-neighbour
invariant-loop-neighbour l = ⊤
