use Rattle.pass_alive.proofs.Common.{Stone, same_cell, cell_at, side_of, HeldSoFar}
use Rattle.pass_alive.proofs.living.stones_of.Given as goal

abbrev pub invariant-loop-number : goal.invariant-loop-number
invariant-loop-number l = HeldSoFar (side_of l.board) (λ q. same_cell (cell_at l.board q) (Stone l.colour)) l.stones l.number
