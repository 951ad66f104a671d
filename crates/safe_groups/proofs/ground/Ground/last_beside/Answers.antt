use Rattle.safe_groups.proofs.Common.{◌≡◌, sym, ◌∙◌, ap, subst, ℕ, cell_at, side_of, number_of, area_of, Lasts}
use Rattle.safe_groups.proofs.Beside.{beside_all, beside_more, beside_those}
use Rattle.safe_groups.proofs.ground.Ground.last_beside.Goals as goal

pub loop-neighbour-preserved : goal.loop-neighbour-preserved
loop-neighbour-preserved c =
    let g = c.args.self.now in let s = c.args.state.now in let n = side_of g.cells in let x = c.neighbour-item.result in
    let at : c.number-beside.result ≡ number_of n x = c.number-beside.ensures.value ∙ ap (λ m. number_of m x) (c.size-size.ensures.value ∙ c.requires.side) in
    beside_more n (λ (q : ℕ). cell_at s q ≡ c.args.wanted → Lasts (area_of g) s q) c.as_slice-neighbour-items.result.now c.loop-neighbour.neighbour-index x c.loop-neighbour-test.true c.neighbour-item.is
    (subst (λ (q : ℕ). cell_at s q ≡ c.args.wanted → Lasts (area_of g) s q) at (c.lasts_if.ensures c.if-not-lasts_if.false))
    c.loop-neighbour.invariant

pub returns : goal.returns
returns c = λ yes.
    let g = c.args.self.now in let n = side_of g.cells in
    let items = c.as_slice-neighbour-items.result.now in
    let those = beside_those n c.size-size.result c.args.number (c.size-size.ensures.value ∙ c.requires.side) c.point_at.result c.point_at.ensures.number_back c.neighbours-neighbours.result.items items c.as_slice-neighbour-items.ensures.value c.neighbours-neighbours.ensures.exact c.neighbours-neighbours.ensures.on_board in
    beside_all n (λ (q : ℕ). cell_at c.args.state.now q ≡ c.args.wanted → Lasts (area_of g) c.args.state.now q) items c.loop-neighbour.neighbour-index c.args.number c.loop-neighbour-test.false those c.loop-neighbour.invariant
