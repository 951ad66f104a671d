use Rattle.std.specs.Prelude.{not, ◌&&◌}
use Rattle.go_points.specs.Grid.{same_cell, cell_at}
use Rattle.tsumego_problem.proofs.Recording.{ValuesBelow}
use Rattle.tsumego_problem.proofs.setup_nodes.changed_to.Given as goal

-- those so far are the values of the points below this one
abbrev pub invariant-loop-number : goal.invariant-loop-number
invariant-loop-number l = ValuesBelow l.size (λ p. same_cell (cell_at l.new p) l.cell && not (same_cell (cell_at l.old p) l.cell)) l.number l.values.items
