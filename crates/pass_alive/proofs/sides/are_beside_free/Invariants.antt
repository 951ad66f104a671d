use Rattle.pass_alive.proofs.Common.{side_of, Place, number_of, these, IsBesideFree}
use Rattle.pass_alive.proofs.Members.{AllBut}
use Rattle.pass_alive.proofs.sides.are_beside_free.Given as goal

abbrev pub invariant-loop-point : goal.invariant-loop-point
invariant-loop-point l =
    (goal.iterator-loop-point).can_next l.point-iterator
    × (goal.iterator-loop-point).is_finite l.point-iterator
    × AllBut (λ (p : Place). IsBesideFree (side_of l.board) l.board (these (side_of l.board) l.set) (number_of (side_of l.board) p) → ⊥) l.points l.point-iterator
