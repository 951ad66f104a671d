use Rattle.pass_alive.proofs.Common.{◌≢◌, ℕ, cell_at, side_of, number_of}
use Rattle.pass_alive.proofs.Members.{AllBeside}
use Rattle.pass_alive.proofs.chains.is_alone.Given as goal

abbrev pub invariant-loop-neighbour : goal.invariant-loop-neighbour
invariant-loop-neighbour l =
    AllBeside (side_of l.board) (λ (q : ℕ). cell_at l.board q ≢ cell_at l.board (number_of (side_of l.board) l.fn.point)) l.neighbour-items l.neighbour-index
