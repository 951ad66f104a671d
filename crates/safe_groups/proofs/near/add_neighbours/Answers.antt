use Rattle.safe_groups.proofs.Common.{◌≡◌, sym, subst, refl, number_of}
use Rattle.safe_groups.proofs.Beside.{beside_adjacent}
use Rattle.safe_groups.proofs.Spacing.{HasBeside, beside_one}
use Rattle.safe_groups.proofs.near.add_neighbours.Goals as goal

pub loop-neighbour-preserved : goal.loop-neighbour-preserved
loop-neighbour-preserved c =
    let n = c.args.size in let p = number_of n c.args.stone in let x = c.neighbour-item.result in
    let adj = beside_adjacent n n p refl c.args.stone refl c.neighbours-neighbours.result.items c.as_slice-neighbour-items.result.now c.as_slice-neighbour-items.ensures.value c.neighbours-neighbours.ensures.exact c.neighbours-neighbours.ensures.on_board c.loop-neighbour.neighbour-index x c.loop-neighbour-test.true c.neighbour-item.is in
    subst (HasBeside n c.args.stone c.args.near.now) (sym c.insert.ensures) (beside_one n c.args.stone c.args.near.now c.loop-neighbour.near x adj c.loop-neighbour.invariant)
