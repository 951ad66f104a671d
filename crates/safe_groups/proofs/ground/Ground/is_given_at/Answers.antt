use Rattle.safe_groups.proofs.Common.{◌≡◌, sym, ◌∙◌, ap, subst, inr, cell_at, same_cell_eq, Stone, own, side_of, number_of, area_of, IsChainOf}
use Rattle.safe_groups.specs.Private.Spaces.{AreNear}
use Rattle.safe_groups.proofs.Spacing.{leans_chain, near_beside}
use Rattle.safe_groups.proofs.ground.Ground.is_given_at.Goals as goal

pub returns-then-marks_one : goal.returns-then-marks_one
returns-then-marks_one c = λ yes is.
    let g = c.args.self.now in let n = side_of g.cells in let board = c.args.stones.now in let point = c.point_at.result in
    let back : number_of n point ≡ c.args.stone = ap (λ m. number_of m point) (sym c.size-size.ensures.value) ∙ c.point_at.ensures.number_back in
    let own_there : cell_at c.args.state.now c.args.stone ≡ own (area_of g) = sym c.cell-2.ensures ∙ same_cell_eq c.cell-2.result (Stone g.keeper) (sym c.is_stone_of-2.ensures ∙ c.if-not-is_stone_of-2.false) in
    let there : IsChainOf n board c.args.stone c.in-Some.chain =
    subst (λ x. IsChainOf n board x c.in-Some.chain) back (subst (λ m. IsChainOf m board (number_of m point) c.in-Some.chain) c.requires.stones_side c.in-Some.ensures.chain) in
    inr (leans_chain g c.args.state.now board c.requires.stones c.args.stone g.earlier c.in-Some.chain c.requires.within own_there there (c.marks_one.ensures c.if-marks_one.true))

pub find_eye-requires-clause-near : goal.find_eye-requires-clause-near
find_eye-requires-clause-near c =
    let g = c.args.self.now in let n = side_of g.cells in let board = c.args.stones.now in let point = c.point_at.result in
    let back : number_of n point ≡ c.args.stone = ap (λ m. number_of m point) (sym c.size-size.ensures.value) ∙ c.point_at.ensures.number_back in
    let own_there : cell_at c.args.state.now c.args.stone ≡ own (area_of g) = sym c.cell-2.ensures ∙ same_cell_eq c.cell-2.result (Stone g.keeper) (sym c.is_stone_of-2.ensures ∙ c.if-not-is_stone_of-2.false) in
    let there : IsChainOf n board c.args.stone c.in-Some.chain =
    subst (λ x. IsChainOf n board x c.in-Some.chain) back (subst (λ m. IsChainOf m board (number_of m point) c.in-Some.chain) c.requires.stones_side c.in-Some.ensures.chain) in
    near_beside (area_of g) c.args.state.now board c.requires.stones c.args.stone c.in-Some.chain c.near_chain-near.result c.requires.within own_there there
    (subst (λ m. AreNear m c.in-Some.chain c.near_chain-near.result) c.size-size.ensures.value c.near_chain-near.ensures)
