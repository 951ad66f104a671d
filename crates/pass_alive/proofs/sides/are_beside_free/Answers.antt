use Rattle.pass_alive.proofs.Common.{side_of, Place, number_of, these, IsBesideFree}
use Rattle.pass_alive.proofs.Members.{but_item}
use Rattle.pass_alive.proofs.sides.are_beside_free.Goals as goal

pub is_beside_free-requires : goal.is_beside_free-requires
is_beside_free-requires c =
    let cells = c.args.board.now in
    let n = side_of cells in
    c.requires c.in-Some.point
    (but_item (λ (p : Place). IsBesideFree n cells (these n c.args.set.now) (number_of n p) → ⊥) c.args.points.now c.loop-point.point-iterator c.next.new.self c.in-Some.point c.in-Some.ensures.steps c.loop-point.invariant.2)
