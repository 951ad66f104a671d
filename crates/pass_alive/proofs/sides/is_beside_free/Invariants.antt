use Rattle.pass_alive.proofs.Common.{◌≡◌, ℕ, IsTrue, Empty, cell_at, side_of, these}
use Rattle.pass_alive.proofs.Members.{AllBeside}
use Rattle.pass_alive.proofs.sides.is_beside_free.Given as goal

abbrev pub invariant-loop-neighbour : goal.invariant-loop-neighbour
invariant-loop-neighbour l =
    AllBeside (side_of l.board) (λ (q : ℕ). cell_at l.board q ≡ Empty → IsTrue (these (side_of l.board) l.set q)) l.neighbour-items l.neighbour-index
