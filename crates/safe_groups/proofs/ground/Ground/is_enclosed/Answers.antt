use Rattle.safe_groups.proofs.Common.{◌≡◌, ◌∙◌, ℕ, cell_at, side_of, own, area_of}
use Rattle.safe_groups.proofs.Beside.{beside_all, beside_those}
use Rattle.safe_groups.proofs.ground.Ground.is_enclosed.Goals as goal

pub returns : goal.returns
returns c = λ yes.
    let g = c.args.self.now in let n = side_of g.cells in
    let items = c.as_slice-neighbour-items.result.now in
    let those = beside_those n c.size-size.result c.args.number (c.size-size.ensures.value ∙ c.requires.side) c.point_at.result c.point_at.ensures.number_back c.neighbours-neighbours.result.items items c.as_slice-neighbour-items.ensures.value c.neighbours-neighbours.ensures.exact c.neighbours-neighbours.ensures.on_board in
    beside_all n (λ (q : ℕ). cell_at c.args.state.now q ≡ own (area_of g)) items c.loop-neighbour.neighbour-index c.args.number c.loop-neighbour-test.false those c.loop-neighbour.invariant
