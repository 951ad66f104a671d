use Rattle.go_points.specs.declared.Cell.TheVariants.{Stone}
use Rattle.go_points.specs.Grid.{cell_at, same_cell, side_of}
use Rattle.go_chains.proofs.Gathering.{HeldSoFar}
use Rattle.proved_groups.proofs.dead.stones_of.Given as goal

abbrev pub invariant-loop-number : goal.invariant-loop-number
invariant-loop-number l = HeldSoFar (side_of l.colouring) (λ p. same_cell (cell_at l.colouring p) (Stone l.colour)) l.stones l.number
