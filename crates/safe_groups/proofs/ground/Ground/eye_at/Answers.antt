use Rattle.safe_groups.proofs.Common.{◌≡◌, sym, ◌∙◌, ap, subst, ◌<◌, ◌*◌, not, true, arith, cell_at, same_cell, eq_same_cell, Empty, side_of, number_of, area_of, IsChainOf}
use Rattle.safe_groups.proofs.Spacing.{is_eye, is_free}
use Rattle.safe_groups.proofs.ground.Ground.eye_at.Goals as goal

pub returns-then-are_eye_points : goal.returns-then-are_eye_points
returns-then-are_eye_points c =
    let g = c.args.self.now in let n = side_of g.cells in let board = c.args.spaces.now in let point = c.point_at.result in
    let back : number_of n point ≡ c.args.number = ap (λ m. number_of m point) (sym c.size.ensures.value) ∙ c.point_at.ensures.number_back in
    let on : number_of n point < n * n = omega (arith, back, c.requires.within) in
    let chain : IsChainOf n board (number_of n point) c.in-Some.space = subst (λ m. IsChainOf m board (number_of m point) c.in-Some.space) c.requires.side c.in-Some.ensures.chain in
    let some : true ≡ not (same_cell (cell_at board (number_of n point)) Empty) = subst (λ m. true ≡ not (same_cell (cell_at board (number_of m point)) Empty)) c.requires.side c.in-Some.ensures.variant in
    let stone : cell_at board (number_of n point) ≡ Empty → ⊥ = λ e. cc (some, ap not (eq_same_cell (cell_at board (number_of n point)) Empty e)) in
    let found = c.are_eye_points.ensures c.if-are_eye_points.true in (
      is_eye g c.args.state.now board c.requires.spaces c.args.stone c.args.near.now c.args.avoided.now c.in-Some.space c.requires.near (number_of n point) on stone chain found,
      is_free g c.args.state.now board c.requires.spaces c.args.stone c.args.near.now c.args.avoided.now c.in-Some.space c.requires.near (number_of n point) on stone chain found,
    )
